use Rattle.std.proofs.Common.{◌≡◌, ℕ, List, [], All, length, drop, sym, ap, ap₂, ◌∙◌, subst}
use Rattle.mars_store.specs.declared.mark.Mark.{Mark as StoreMark}
use Rattle.mars_watch.specs.Lined.{AreAscending, without, IsLaterLine}
use Rattle.mars_watch.specs.Gathered.{AreRising, AreGathered}
use Rattle.mars_watch.proofs.CallerLemmas.{ascending-rises}
use Rattle.mars_dif.specs.Inside.{IsInside}
use Rattle.mars_dif.specs.Kept.{Kept}
use Rattle.mars_dif.specs.KeptInside.{AreSorted, AreSortedOut}
use Rattle.mars_dif.proofs.Attending.{sizes-same, waiting-inside, touched-sorted, current-tried}
use Rattle.mars_dif.proofs.dif_store.DifStore.try_touched.Goals as goal

pub sort_out-requires-clause-inside : goal.sort_out-requires-clause-inside
sort_out-requires-clause-inside c =
    subst (All (IsInside c.args.store.now)) (sym (c.now.ensures ∙ ap (λ (k : Kept). k.difs.now) c.self.view_is)) (waiting-inside c.args.self.now c.args.store.now c.requires.0 c.requires.1)

pub sort_out-requires-clause-sizes : goal.sort_out-requires-clause-sizes
sort_out-requires-clause-sizes c =
    ap length (c.now-2.ensures ∙ ap (λ (k : Kept). k.numbers.now) c.self.view_is) ∙ sizes-same c.args.self.now c.args.store.now c.requires.0 c.requires.1
    ∙ ap length (sym (c.now.ensures ∙ ap (λ (k : Kept). k.difs.now) c.self.view_is))

pub sort_out-requires-clause-rising : goal.sort_out-requires-clause-rising
sort_out-requires-clause-rising c =
    let s = c.args.self.now in
    subst AreRising (sym (c.now-2.ensures ∙ ap (λ (k : Kept). k.numbers.now) c.self.view_is)) (ascending-rises 0 s.numbers.now (length s.numbers.past) c.requires.1.current.ascending)

pub sort_out-requires-clause-touched : goal.sort_out-requires-clause-touched
sort_out-requires-clause-touched c =
    let s = c.args.self.now in
    let i = c.self.inside in
    let ts : List ℕ = c.in_ok-touched.touched.items in
    let gathered = subst (λ (k : Kept). AreGathered k.watches (drop k.seen c.args.store.now.bound) ts) c.self.view_is c.in_ok-touched.ensures in
    let sorted = touched-sorted s c.args.store.now c.requires.0 ts c.requires.1 gathered in
    let inner = subst (λ (k : Kept). AreSorted c.args.store.now k.difs.now k.numbers.now ts k.watches [] k.failed k.failed) (sym c.self.view_is) sorted in
    subst (λ ds. AreSorted c.args.store.now ds c.now-2.result.now c.deref.result.now i.watchers [] i.failed i.failed) (sym c.now.ensures)
    (subst (λ ns. AreSorted c.args.store.now i.difs.now ns c.deref.result.now i.watchers [] i.failed i.failed) (sym c.now-2.ensures)
    (subst (λ xs. AreSorted c.args.store.now i.difs.now i.numbers.now xs i.watchers [] i.failed i.failed) (sym c.deref.ensures.value) inner))

pub leave-requires-clause-numbers : goal.leave-requires-clause-numbers
leave-requires-clause-numbers c =
    let s = c.args.self.now in
    let size : length c.now.result.now ≡ length c.self.inside.numbers.now =
    ap length (c.now.ensures ∙ ap (λ (k : Kept). k.difs.now) c.self.view_is) ∙ sym (sizes-same s c.args.store.now c.requires.0 c.requires.1) ∙ ap (λ (k : Kept). length k.numbers.now) (sym c.self.view_is) in
    subst (λ n. AreAscending 0 c.deref-2.result.now n) size (subst (λ ps. AreAscending 0 ps (length c.now.result.now)) (sym c.deref-2.ensures.value) c.in_ok-sorted.ensures.sorted.ascending)

pub returns-clause-current : goal.returns-clause-current
returns-clause-current c added is =
    let s = c.args.self.now in
    let places : List ℕ = c.in_ok-sorted.sorted.found.items in
    let new : Kept = record { difs = c.self-2.inside.difs; numbers = c.self-2.inside.numbers; watches = c.self-2.inside.watchers; seen = c.mark-bound.result.bound; failed = c.in_ok-sorted.sorted.failed } in
    let d : c.now.result.now ≡ s.difs.now = c.now.ensures ∙ ap (λ (k : Kept). k.difs.now) c.self.view_is in
    let n : c.now-2.result.now ≡ s.numbers.now = c.now-2.ensures ∙ ap (λ (k : Kept). k.numbers.now) c.self.view_is in
    let f : c.self.inside.failed ≡ s.failed = ap (λ (k : Kept). k.failed) c.self.view_is in
    let w : c.self-2.inside.watchers ≡ c.sort_out.new.watchers = ap (λ (k : Kept). k.watches) c.self-2.view_is ∙ c.leave.ensures.watches in
    let sorted = subst (λ ds. AreSortedOut c.args.store.now ds s.numbers.now new.watches places s.failed new.failed) d
    (subst (λ ns. AreSortedOut c.args.store.now c.now.result.now ns new.watches places s.failed new.failed) n
    (subst (λ ws. AreSortedOut c.args.store.now c.now.result.now c.now-2.result.now ws places s.failed new.failed) (sym w)
    (subst (λ b. AreSortedOut c.args.store.now c.now.result.now c.now-2.result.now c.sort_out.new.watchers places b new.failed) f c.in_ok-sorted.ensures.sorted))) in
    let left : c.self-2.inside.difs.now ≡ without 0 places s.difs.now =
    ap (λ (k : Kept). k.difs.now) c.self-2.view_is ∙ c.in_ok-leave.ensures.ok.0 ∙ ap₂ (λ ps qs. without 0 ps qs) c.deref-2.ensures.value (ap (λ (k : Kept). k.difs.now) c.self.view_is) in
    let kept : c.self-2.inside.numbers.now ≡ without 0 places s.numbers.now =
    ap (λ (k : Kept). k.numbers.now) c.self-2.view_is ∙ c.in_ok-leave.ensures.ok.1 ∙ ap₂ (λ ps qs. without 0 ps qs) c.deref-2.ensures.value (ap (λ (k : Kept). k.numbers.now) c.self.view_is) in
    let later = subst (λ (k : Kept). IsLaterLine s.numbers k.numbers) (sym c.self-2.view_is) (subst (λ (k : Kept). IsLaterLine k.numbers c.leave.new.self.numbers) c.self.view_is c.leave.ensures.numbers) in
    current-tried s new c.args.store.now added places c.mark-bound.ensures.system is sorted left kept later (ap (λ (m : StoreMark). m.bound) c.mark-bound.ensures.mark)
