use Rattle.mars_scripts.specs.WellFormed.{IsWellFormedInput}
use Rattle.rows_gate.proofs.inputs.read_copies.Given as goal

abbrev pub invariant-loop : goal.invariant-loop
invariant-loop l = IsWellFormedInput l.input
