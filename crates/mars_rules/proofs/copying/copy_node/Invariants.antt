use Rattle.std.proofs.Common.{◌≡◌, map, take, slice_index_or}
use Rattle.mars_tree.specs.Graph.{kids_of}
use Rattle.mars_rules.proofs.copying.copy_node.Given as goal

-- so many kids have their copies
abbrev pub invariant-loop-kid : goal.invariant-loop-kid
invariant-loop-kid l = l.kids.items ≡ map (λ kid. slice_index_or l.copies.items kid 0) (take l.kid-index (kids_of l.nodes l.place))
