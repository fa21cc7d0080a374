use Rattle.std.proofs.Common.{◌≡◌, length}
use Rattle.rows_gate.proofs.turns.run_in_turn.Given as goal

-- the world has a session for each of the input
abbrev pub invariant-loop-who : goal.invariant-loop-who
invariant-loop-who g l = length l.world.sessions ≡ length l.input.sessions
