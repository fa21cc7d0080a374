use Rattle.std.proofs.Common.{◌≡◌, ◌++◌, take, drop, map}
use Rattle.mars_graphs.specs.Nodes.{tied}
use Rattle.mars_graphs.proofs.redirect.redirect.Given as goal

abbrev pub invariant-loop-node : goal.invariant-loop-node
invariant-loop-node l = l.graph ≡ map (tied l.targets) (take l.node l.initial.graph) ++ drop l.node l.initial.graph
