use Rattle.mars_turn.specs.Passes.{turn_id, MayEnter}
use Rattle.rows_turn.proofs.callers.add_all.Given as goal

abbrev pub invariant-loop-item : goal.invariant-loop-item
invariant-loop-item g l = MayEnter (turn_id l.fn.turn) l.pass
