use Rattle.mars_store.specs.System.{Grows}
use Rattle.mars_dif.specs.Kept.{Serves, IsAfter}
use Rattle.bench.proofs.difs.histories.run_inner.Given as goal

abbrev pub invariant-loop : goal.invariant-loop
invariant-loop l = record {
  serves : Serves l.world.difs l.world.store;
  grows : Grows l.fn.world.store l.world.store;
  after : IsAfter l.fn.world.difs l.world.difs;
}
