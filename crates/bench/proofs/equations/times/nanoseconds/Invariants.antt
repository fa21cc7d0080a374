use Rattle.std.proofs.Common.{◌<◌, length}
use Rattle.bench.proofs.equations.times.nanoseconds.Given as goal

abbrev pub invariant-loop : goal.invariant-loop
invariant-loop g l = record {
  left : l.left < length l.store.nodes;
  right : l.right < length l.store.nodes;
}
