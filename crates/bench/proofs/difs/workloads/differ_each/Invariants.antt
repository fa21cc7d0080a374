use Rattle.mars_dif.specs.Kept.{Serves}
use Rattle.bench.proofs.difs.workloads.differ_each.Given as goal

abbrev pub invariant-loop-node : goal.invariant-loop-node
invariant-loop-node l = Serves l.world.difs l.world.store
