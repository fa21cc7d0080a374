use Rattle.std.proofs.Common.{◌≡◌, ◌≤◌, ◌+◌, ◌++◌, length, map, take}
use Rattle.mars_tree.proofs.numbers.push_renumbered.Given as goal

abbrev pub invariant-loop-node : goal.invariant-loop-node
invariant-loop-node g l = record {
  items : l.into.items ≡ l.fn.into.items ++ map (g.N.NewNumbers.number_in l.numbers) (take l.node-index l.nodes);
  count : l.into.len ≡ l.fn.into.len + l.node-index;
  room : l.fn.into.len + length l.nodes ≤ l.into.cap;
}
