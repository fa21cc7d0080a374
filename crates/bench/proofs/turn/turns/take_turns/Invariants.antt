use Rattle.mars_turn.specs.Passes.{turn_id, MayEnter}
use Rattle.bench.proofs.turn.turns.take_turns.Given as goal

abbrev pub invariant-loop : goal.invariant-loop
invariant-loop g l = MayEnter (turn_id l.fn.turn) l.pass
