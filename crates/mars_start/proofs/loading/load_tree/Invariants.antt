use Rattle.mars_start.specs.LoadingInside.{AreNodesLoaded}
use Rattle.mars_start.proofs.loading.load_tree.Given as goal

-- the nodes before this one were loaded
abbrev pub invariant-loop-node : goal.invariant-loop-node
invariant-loop-node l = AreNodesLoaded l.fn.store l.nodes.items l.tree l.store l.node
