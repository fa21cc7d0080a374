-- Trees: ground canonical graphs with one root.
use Rattle.std.specs.Prelude.{◌≡◌, ℕ, ◌<◌, ◌≤◌, List, [], ◌∷◌, ◌++◌, length}
use Rattle.std.specs.List.{filter_map}
use Rattle.std.specs.Hash.{HashWrites, slice, u16}
use Rattle.mars_tree.specs.Graph.{Node, IsGraph, IsGround, Same}
use Rattle.mars_tree.specs.Canonical.{IsCanonical}
use Rattle.mars_tree.specs.Equality.{label_writes, all_kids}
use Rattle.mars_canon.specs.Canon.{Rooted}
use Rattle.mars_canon.specs.declared.tree.TheConstants.{MOST_NODES}

-- how many nodes a tree may have, the code's own number
abbrev pub most_nodes : ℕ
most_nodes = MOST_NODES

-- a canonical graph without free leaves, with the one root 0 and not too many nodes
pub record IsTree (g : List Node) : Type 0 where
  pub graph : IsGraph g
  pub ground : IsGround g
  pub canonical : IsCanonical g (0 ∷ [])
  pub root : 0 < length g
  pub few : length g ≤ most_nodes

-- without free leaves, with one root and not too many nodes
pub record FitsTree (c : Rooted) : Type 0 where
  pub ground : IsGround c.nodes
  pub root : length c.roots ≡ 1
  pub few : length c.nodes ≤ most_nodes

-- the roots' trees are the same
abbrev pub IsSameTree : List Node → List Node → Type 0
IsSameTree g h = Same g 0 h 0

-- what is written into a hash: all labels, and then all kids; how many kids a label has follows from the label
abbrev pub tree_writes : List Node → HashWrites
tree_writes g = slice label_writes (filter_map (λ node. node.label) g) ++ slice u16 (all_kids g)
