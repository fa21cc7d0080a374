use Rattle.std.proofs.Common.{◌<◌, ◌≤◌, length}
use Rattle.bench.proofs.equations.workloads.add_spaced_row.Given as goal

abbrev pub invariant-loop : goal.invariant-loop
invariant-loop l = record {
  top : l.top < length l.store.nodes;
  more : length l.fn.store.nodes ≤ length l.store.nodes;
}
