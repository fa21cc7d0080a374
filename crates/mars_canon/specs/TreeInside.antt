-- What the fields of `Tree` hold.
use Rattle.std.specs.Prelude.{◌≤◌, List, [], ◌∷◌, Option, Some, length, map}
use Rattle.mars_tree.specs.declared.label.Label.{Label}
use Rattle.mars_tree.specs.Graph.{Node}
use Rattle.mars_tree.specs.Canonical.{IsCanonical}
use Rattle.mars_tree.specs.Stored.{nodes_of, IsLaid}
use Rattle.mars_canon.specs.declared.tree.Tree.TheInside.{Inside}
use Rattle.mars_canon.specs.Tree.{most_nodes}

-- the labels, none of which is a free leaf's
abbrev pub labels_of : Inside → List (Option Label)
labels_of t = map Some t.labels.items

-- what contracts see of the fields
abbrev pub tree_nodes : Inside → List Node
tree_nodes t = nodes_of (labels_of t) t.kids.items

-- what holds of the fields
pub record HoldsTree (t : Inside) : Type 0 where
  pub laid : IsLaid (labels_of t) t.starts.items t.kids.items
  pub canonical : IsCanonical (tree_nodes t) (0 ∷ [])
  pub few : length t.labels.items ≤ most_nodes
