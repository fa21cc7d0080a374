use Rattle.std.proofs.Common.{◌≡◌, ◌≤◌, ◌+◌, ◌++◌, length, map, take}
use Rattle.mars_tree.specs.Graph.{label_of}
use Rattle.mars_tree.proofs.graph.flat.push_labels.Given as goal

abbrev pub invariant-loop-node : goal.invariant-loop-node
invariant-loop-node l = record {
  items : l.into.items ≡ l.fn.into.items ++ map (label_of l.from) (take l.node-index l.nodes);
  count : l.into.len ≡ l.fn.into.len + l.node-index;
  room : l.fn.into.len + length l.nodes ≤ l.into.cap;
}
