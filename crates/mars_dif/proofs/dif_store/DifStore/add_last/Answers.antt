use Rattle.std.proofs.Common.{sym, subst}
use Rattle.mars_store.specs.System.{System}
use Rattle.mars_dif.specs.Told.{IsTold}
use Rattle.mars_dif.specs.Watched.{IsWatching}
use Rattle.mars_dif.specs.Kept.{Kept, IsCurrent, IsAfter, with_dif}
use Rattle.mars_dif.specs.KeptInside.{OnWaits}
use Rattle.mars_dif.proofs.Attending.{current-told}
use Rattle.mars_dif.proofs.Lasting.{after-then, after-watched}
use Rattle.mars_dif.proofs.dif_store.DifStore.add_last.Goals as goal

pub returns-in_err-put-clause-after : goal.returns-in_err-put-clause-after
returns-in_err-put-clause-after c =
    let i = c.self.inside in
    let mid : Kept = record { difs = i.difs; numbers = i.numbers; watches = i.watchers; seen = i.seen; failed = i.failed } in
    let more : Kept = record mid { watches = c.tell_apart.new.watchers } in
    after-then c.args.self.now mid c.put.new.self (subst (λ (k : Kept). IsAfter c.args.self.now k) (sym c.self.view_is) c.try_touched.ensures.after)
    (after-then mid more c.put.new.self (after-watched mid c.tell_apart.new.watchers c.tell_apart.ensures.cut) c.put.ensures.after)

pub returns-clause-current : goal.returns-clause-current
returns-clause-current c added is =
    let i = c.self.inside in
    let s : System = c.args.store.now in
    let mid : Kept = record { difs = i.difs; numbers = i.numbers; watches = i.watchers; seen = i.seen; failed = i.failed } in
    let told = c.in_ok-told.told in
    let current : IsCurrent mid s added = subst (λ (k : Kept). IsCurrent k s added) (sym c.self.view_is) (c.in_ok-try_touched.ensures.current added is) in
    let says = subst (λ (t : System). IsTold told t c.args.a c.args.b) c.try_touched.ensures.store c.in_ok-told.ensures.told in
    let watching = subst (λ n. OnWaits told (IsWatching c.tell_apart.new.watchers s n (c.args.a, c.args.b))) c.changes-number.ensures
    (subst (λ (t : System). OnWaits told (IsWatching c.tell_apart.new.watchers t c.changes-number.result (c.args.a, c.args.b))) c.try_touched.ensures.store c.in_ok-told.ensures.watching) in
    subst (λ (k : Kept). IsCurrent k s (with_dif told added (c.args.a, c.args.b))) (sym c.in_ok-put.ensures.ok)
    (current-told mid c.tell_apart.new.watchers s added (c.args.a, c.args.b) told current (record { left = c.requires.a_in; right = c.requires.b_in }) says c.tell_apart.ensures.cut watching)

pub returns-clause-after : goal.returns-clause-after
returns-clause-after c =
    let i = c.self.inside in
    let mid : Kept = record { difs = i.difs; numbers = i.numbers; watches = i.watchers; seen = i.seen; failed = i.failed } in
    let more : Kept = record mid { watches = c.tell_apart.new.watchers } in
    after-then c.args.self.now mid c.put.new.self (subst (λ (k : Kept). IsAfter c.args.self.now k) (sym c.self.view_is) c.try_touched.ensures.after)
    (after-then mid more c.put.new.self (after-watched mid c.tell_apart.new.watchers c.tell_apart.ensures.cut) c.put.ensures.after)
