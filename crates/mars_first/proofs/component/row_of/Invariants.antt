use Rattle.std.proofs.Common.{◌≡◌, ◌∷◌, [], map, take}
use Rattle.mars_tree.specs.Graph.{label_of}
use Rattle.mars_comp.specs.Key.{item_of}
use Rattle.mars_comp.specs.declared.items.Item.TheVariants.{Node}
use Rattle.mars_first.proofs.component.row_of.Given as goal

abbrev pub invariant-loop-kid : goal.invariant-loop-kid
invariant-loop-kid l = l.items.items ≡ Node (label_of l.graph l.node) ∷ map (item_of l.parts l.outside [] l.node) (take l.kid-index l.kid-items)
