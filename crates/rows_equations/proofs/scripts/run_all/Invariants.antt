use Rattle.mars_dif.specs.Kept.{Serves}
use Rattle.rows_equations.proofs.scripts.run_all.Given as goal

abbrev pub invariant-loop-command : goal.invariant-loop-command
invariant-loop-command l = Serves l.world.difs l.world.store
