use Rattle.mars_dif.specs.Kept.{Serves}
use Rattle.rows_equations.specs.LastsInside.{StoreLasts, KeeperLasts}
use Rattle.rows_equations.proofs.scripts.run_each.Given as goal

abbrev pub invariant-loop-kid : goal.invariant-loop-kid
invariant-loop-kid l = record {
  serves : Serves l.world.difs l.world.store;
  store : StoreLasts l.fn.world.store l.world.store;
  difs : KeeperLasts l.fn.world.difs l.world.difs;
}
