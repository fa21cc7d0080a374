use Rattle.mars_dif.specs.Kept.{Serves}
use Rattle.bench.proofs.difs.workloads.differ_all.Given as goal

abbrev pub invariant-loop-k : goal.invariant-loop-k
invariant-loop-k l = Serves l.world.difs l.world.store
