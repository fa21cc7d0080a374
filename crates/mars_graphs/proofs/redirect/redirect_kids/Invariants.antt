use Rattle.std.proofs.Common.{◌≡◌, ◌++◌, take, drop, map}
use Rattle.mars_tree.specs.Graph.{kids_of}
use Rattle.mars_graphs.specs.Nodes.{kids_set, target_among}
use Rattle.mars_graphs.proofs.redirect.redirect_kids.Given as goal

abbrev pub invariant-loop-place : goal.invariant-loop-place
invariant-loop-place l = l.graph ≡ kids_set l.initial.graph l.node (map (target_among l.targets) (take l.place (kids_of l.initial.graph l.node)) ++ drop l.place (kids_of l.initial.graph l.node))
