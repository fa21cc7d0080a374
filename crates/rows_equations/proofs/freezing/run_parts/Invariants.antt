use Rattle.mars_frozen.specs.Freezing.{CanWake}
use Rattle.rows_equations.proofs.freezing.run_parts.Given as goal

-- the pairs can be used with the store
abbrev pub invariant-loop-part : goal.invariant-loop-part
invariant-loop-part l = CanWake l.world.frozen l.world.store
