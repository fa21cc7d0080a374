use Rattle.std.proofs.Common.{◌≡◌, ℕ, length, subst, sym, ap, arith}
use Rattle.std.proofs.lemmas.List.{take_all}
use Rattle.mars_watch.specs.Lined.{Lined, IsLaterLine}
use Rattle.mars_watch.proofs.CallerLemmas.{undone-change, later-same}
use Rattle.mars_dif.specs.Kept.{Kept, IsAfter}
use Rattle.mars_dif.proofs.dif_store.DifStore.put_waiting.Goals as goal

pub returns-in-Err-clause-after : goal.returns-in-Err-clause-after
returns-in-Err-clause-after c =
    let i = c.self.inside in
    let numbers : c.undo_to.new.self ≡ i.numbers =
    undone-change i.numbers c.add.new.self c.undo_to.new.self c.changes-number.result (ap (λ (l : Lined ℕ). l.past) c.in_ok-add.ensures.ok) c.changes-number.ensures c.undo_to.ensures in
    subst (λ (k : Kept). IsAfter k (record { difs = c.add-2.new.self; numbers = c.undo_to.new.self; watches = i.watchers; seen = i.seen; failed = i.failed })) c.self.view_is (record {
      difs = subst (IsLaterLine i.difs) (sym c.in-Err.ensures.err) (later-same i.difs);
      numbers = subst (IsLaterLine i.numbers) (sym numbers) (later-same i.numbers);
      more = omega arith;
      watches = take_all (length i.watchers) i.watchers (omega arith);
    })
