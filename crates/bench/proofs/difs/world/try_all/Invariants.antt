use Rattle.std.proofs.Common.{◌≡◌}
use Rattle.bench.proofs.difs.world.try_all.Given as goal

abbrev pub invariant-loop-dif : goal.invariant-loop-dif
invariant-loop-dif l = l.store ≡ l.fn.store
