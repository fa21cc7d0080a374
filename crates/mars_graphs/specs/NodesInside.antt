-- What the fields of a maker of nodes hold.
use Rattle.mars_graphs.specs.declared.nodes.NodeMaker.TheInside.{Inside}
use Rattle.mars_graphs.specs.Nodes.{Nodes, AreNodes}

abbrev pub nodes_inside : Inside → Nodes
nodes_inside b = record { nodes = b.graph; targets = b.targets.items; leaves = b.leaves.entries }

abbrev pub AreNodesInside : Inside → Type 0
AreNodesInside b = AreNodes (nodes_inside b)
