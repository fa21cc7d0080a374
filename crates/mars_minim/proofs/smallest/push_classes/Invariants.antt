use Rattle.std.proofs.Common.{◌≡◌, ◌++◌, map, take}
use Rattle.mars_refine.specs.Refine.{class_of}
use Rattle.mars_minim.proofs.smallest.push_classes.Given as goal

abbrev pub invariant-loop-node : goal.invariant-loop-node
invariant-loop-node l = l.into.items ≡ l.initial.into.items ++ map (class_of l.classes.of) (take l.node-index l.nodes)
