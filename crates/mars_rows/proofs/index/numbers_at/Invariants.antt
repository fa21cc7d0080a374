use Rattle.std.proofs.Common.{◌≡◌, ◌≤◌, length, map, take, vec_capacity}
use Rattle.mars_rows.specs.IndexInside.{number_for}
use Rattle.mars_rows.proofs.index.numbers_at.Given as goal

abbrev pub invariant-loop-node : goal.invariant-loop-node
invariant-loop-node l = record {
  items : l.numbers.items ≡ map (number_for l.names) (take l.node-index l.nodes);
  room : length l.nodes ≤ vec_capacity l.numbers;
}
