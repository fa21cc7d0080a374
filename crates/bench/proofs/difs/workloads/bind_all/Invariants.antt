use Rattle.mars_dif.specs.Kept.{Serves}
use Rattle.bench.proofs.difs.workloads.bind_all.Given as goal

abbrev pub invariant-loop-place : goal.invariant-loop-place
invariant-loop-place l = Serves l.world.difs l.world.store
