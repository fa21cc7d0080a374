use Rattle.std.proofs.Common.{◌≡◌, ℕ, subst, sym, ap}
use Rattle.mars_watch.specs.Lined.{Lined, IsLaterLine}
use Rattle.mars_watch.proofs.CallerLemmas.{undone-change, later-same}
use Rattle.mars_frozen.specs.Freezing.{FrozenPairs}
use Rattle.mars_frozen.proofs.frozen.Frozen.leave.Goals as goal

pub returns-in-Err-clause-numbers : goal.returns-in-Err-clause-numbers
returns-in-Err-clause-numbers c =
    let i = c.self.inside in
    let numbers : c.undo_to.new.self ≡ i.numbers =
    undone-change i.numbers c.leave.new.self c.undo_to.new.self c.changes-changes.result (ap (λ (l : Lined ℕ). l.past) c.in_ok-leave.ensures.ok) c.changes-changes.ensures c.undo_to.ensures in
    subst (λ (f : FrozenPairs). IsLaterLine f.numbers c.undo_to.new.self) c.self.view_is (subst (IsLaterLine i.numbers) (sym numbers) (later-same i.numbers))
