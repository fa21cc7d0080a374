use Rattle.std.proofs.Common.{◌≡◌, ◌++◌, take, drop}
use Rattle.mars_tree.specs.Graph.{kids_of}
use Rattle.mars_graphs.specs.Nodes.{kids_set}
use Rattle.mars_graphs.proofs.redirect.set_kids.Given as goal

abbrev pub invariant-loop-place : goal.invariant-loop-place
invariant-loop-place l = l.graph ≡ kids_set l.initial.graph l.node (take l.place l.kids ++ drop l.place (kids_of l.initial.graph l.node))
