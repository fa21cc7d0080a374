use Rattle.mars_dif.specs.Kept.{Serves}
use Rattle.bench.proofs.difs.workloads.wake_often.Given as goal

abbrev pub invariant-loop : goal.invariant-loop
invariant-loop l = Serves l.world.difs l.world.store
