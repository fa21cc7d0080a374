use Rattle.mars_dif.specs.Kept.{Serves}
use Rattle.bench.proofs.difs.workloads.differ_from_earlier.Given as goal

abbrev pub invariant-loop-other : goal.invariant-loop-other
invariant-loop-other l = Serves l.world.difs l.world.store
