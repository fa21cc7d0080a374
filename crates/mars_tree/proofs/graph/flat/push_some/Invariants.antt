use Rattle.std.proofs.Common.{◌≡◌, ◌++◌, take}
use Rattle.mars_tree.specs.Renumbered.{renumbered_kids}
use Rattle.mars_tree.proofs.graph.flat.push_some.Given as goal

abbrev pub invariant-loop-node : goal.invariant-loop-node
invariant-loop-node g l = l.into.items ≡ l.fn.into.items ++ renumbered_kids l.from (g.N.NewNumbers.number_in l.numbers) (take l.node-index l.nodes)
