use Rattle.std.proofs.Common.{◌≡◌, ◌-◌, ◌^◌, min, length, take}
use Rattle.mars_tree.specs.Equality.{all_kids}
use Rattle.mars_canon.proofs.tree.count_kids.Given as goal

abbrev pub invariant-loop-node : goal.invariant-loop-node
invariant-loop-node l = l.count ≡ min (length (all_kids (take l.node l.canon.nodes))) (2 ^ 64 - 1)
