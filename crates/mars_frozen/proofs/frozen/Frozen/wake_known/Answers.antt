use Rattle.std.proofs.Common.{◌≡◌, ℕ, List, [], length, sym, ap, ap₂, ◌∙◌, subst, arith}
use Rattle.mars_store.specs.declared.mark.Mark.{Mark as StoreMark}
use Rattle.mars_watch.specs.Lined.{AreAscending, without, IsLaterLine}
use Rattle.mars_watch.specs.Gathered.{AreRising}
use Rattle.mars_frozen.specs.Freezing.{FrozenPairs, AreWoken}
use Rattle.mars_frozen.specs.FrozenInside.{AreSettled, AreFound, goals_of}
use Rattle.mars_watch.proofs.CallerLemmas.{ascending-rises}
use Rattle.mars_frozen.proofs.Filing.{touched-settled}
use Rattle.mars_frozen.proofs.Wakes.{sizes-same, woken-all, can-wake}
use Rattle.mars_frozen.proofs.frozen.Frozen.wake_known.Goals as goal

pub known_places-requires-clause-sizes : goal.known_places-requires-clause-sizes
known_places-requires-clause-sizes c =
    let s = c.args.self.now in
    ap length (c.now-2.ensures ∙ ap (λ (f : FrozenPairs). f.numbers.now) c.self.view_is) ∙ sizes-same s c.args.store.now c.requires
    ∙ ap length (sym (c.now.ensures ∙ ap (λ (f : FrozenPairs). f.pairs.now) c.self.view_is))

pub known_places-requires-clause-rising : goal.known_places-requires-clause-rising
known_places-requires-clause-rising c =
    let s = c.args.self.now in
    subst AreRising (sym (c.now-2.ensures ∙ ap (λ (f : FrozenPairs). f.numbers.now) c.self.view_is)) (ascending-rises 0 s.numbers.now (length s.numbers.past) c.requires.filed.ascending)

pub known_places-requires-clause-touched : goal.known_places-requires-clause-touched
known_places-requires-clause-touched c =
    let s = c.args.self.now in
    let i = c.self.inside in
    let settled = touched-settled s c.args.store.now c.in_ok-touched.touched.items c.in_ok-touched.ensures in
    let inner = subst (λ (f : FrozenPairs). AreSettled c.args.store.now f.pairs.now f.numbers.now c.in_ok-touched.touched.items f.watches []) (sym c.self.view_is) settled in
    subst (λ ps. AreSettled c.args.store.now ps c.now-2.result.now c.deref.result.now i.watchers []) (sym c.now.ensures)
    (subst (λ ns. AreSettled c.args.store.now i.pairs.now ns c.deref.result.now i.watchers []) (sym c.now-2.ensures)
    (subst (λ ts. AreSettled c.args.store.now i.pairs.now i.numbers.now ts i.watchers []) (sym c.deref.ensures.value) inner))

pub leave-requires-clause-numbers : goal.leave-requires-clause-numbers
leave-requires-clause-numbers c =
    let s = c.args.self.now in
    let size : length c.now.result.now ≡ length c.self.inside.numbers.now =
    ap length (c.now.ensures ∙ ap (λ (f : FrozenPairs). f.pairs.now) c.self.view_is) ∙ sym (sizes-same s c.args.store.now c.requires) ∙ ap (λ (f : FrozenPairs). length f.numbers.now) (sym c.self.view_is) in
    subst (λ n. AreAscending 0 c.deref-3.result.now n) size (subst (λ ps. AreAscending 0 ps (length c.now.result.now)) (sym c.deref-3.ensures.value) c.in_ok-places.ensures.found.ascending)

pub returns-clause-woken : goal.returns-clause-woken
returns-clause-woken c =
    let s = c.args.self.now in
    let places : List ℕ = c.in_ok-places.places.items in
    let p : c.now.result.now ≡ s.pairs.now = c.now.ensures ∙ ap (λ (f : FrozenPairs). f.pairs.now) c.self.view_is in
    let n : c.now-2.result.now ≡ s.numbers.now = c.now-2.ensures ∙ ap (λ (f : FrozenPairs). f.numbers.now) c.self.view_is in
    let found = subst (λ ps. AreFound c.args.store.now ps s.numbers.now c.known_places.new.watchers places) p (subst (λ ns. AreFound c.args.store.now c.now.result.now ns c.known_places.new.watchers places) n c.in_ok-places.ensures.found) in
    let woken = woken-all c.args.store.now c.mark.ensures.system s.pairs.now s.numbers.now c.known_places.new.watchers places (sizes-same s c.args.store.now c.requires) c.requires.inside found in
    let goals : c.in_ok-goals.goals.items ≡ goals_of s.pairs.now places =
    c.in_ok-goals.ensures ∙ ap₂ goals_of (c.now-3.ensures ∙ ap (λ (f : FrozenPairs). f.pairs.now) c.self.view_is) c.deref-2.ensures.value in
    let left : c.self-2.inside.pairs.now ≡ without 0 places s.pairs.now =
    ap (λ (f : FrozenPairs). f.pairs.now) c.self-2.view_is ∙ c.in_ok-leave.ensures.ok.0 ∙ ap₂ (λ ps qs. without 0 ps qs) c.deref-3.ensures.value (ap (λ (f : FrozenPairs). f.pairs.now) c.self.view_is) in
    subst (λ gs. AreWoken c.args.store.now s.pairs.now gs c.self-2.inside.pairs.now) (sym goals) (subst (λ l. AreWoken c.args.store.now s.pairs.now (goals_of s.pairs.now places) l) (sym left) woken)

pub returns-clause-ready : goal.returns-clause-ready
returns-clause-ready c =
    let s = c.args.self.now in
    let places : List ℕ = c.in_ok-places.places.items in
    let p : c.now.result.now ≡ s.pairs.now = c.now.ensures ∙ ap (λ (f : FrozenPairs). f.pairs.now) c.self.view_is in
    let n : c.now-2.result.now ≡ s.numbers.now = c.now-2.ensures ∙ ap (λ (f : FrozenPairs). f.numbers.now) c.self.view_is in
    let found = subst (λ ps. AreFound c.args.store.now ps s.numbers.now c.known_places.new.watchers places) p (subst (λ ns. AreFound c.args.store.now c.now.result.now ns c.known_places.new.watchers places) n c.in_ok-places.ensures.found) in
    let left : c.self-2.inside.pairs.now ≡ without 0 places s.pairs.now =
    ap (λ (f : FrozenPairs). f.pairs.now) c.self-2.view_is ∙ c.in_ok-leave.ensures.ok.0 ∙ ap₂ (λ ps qs. without 0 ps qs) c.deref-3.ensures.value (ap (λ (f : FrozenPairs). f.pairs.now) c.self.view_is) in
    let kept : c.self-2.inside.numbers.now ≡ without 0 places s.numbers.now =
    ap (λ (f : FrozenPairs). f.numbers.now) c.self-2.view_is ∙ c.in_ok-leave.ensures.ok.1 ∙ ap₂ (λ ps qs. without 0 ps qs) c.deref-3.ensures.value (ap (λ (f : FrozenPairs). f.numbers.now) c.self.view_is) in
    let later = subst (λ (f : FrozenPairs). IsLaterLine s.numbers f.numbers) (sym c.self-2.view_is) (subst (λ (f : FrozenPairs). IsLaterLine f.numbers c.leave.new.self.numbers) c.self.view_is c.leave.ensures.numbers) in
    can-wake s (record { pairs = c.self-2.inside.pairs; numbers = c.self-2.inside.numbers; watches = c.self-2.inside.watchers; filed = c.changes-self-inside.result; seen = c.mark.result.bound }) c.args.store.now c.known_places.new.watchers places
    c.requires found left kept later (ap (λ (f : FrozenPairs). f.watches) c.self-2.view_is ∙ c.leave.ensures.watches) (omega (arith, c.changes-self-inside.ensures)) (ap (λ (m : StoreMark). m.bound) c.mark.ensures.mark)
