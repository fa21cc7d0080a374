-- Trees by their canonical graphs, and what interning makes of the tree of a node.
use Rattle.std.specs.Prelude.{◌≡◌, ℕ, List, [], ◌∷◌}
use Rattle.mars_tree.specs.Graph.{Node, IsGraph, IsGround, Same}
use Rattle.mars_tree.specs.Canonical.{IsCanonical}
use Rattle.mars_rows.specs.Object.{TableObject, intern}
use Rattle.mars_rows.specs.Object.Interned.{kept}

-- the canonical graph, with root 0, of a tree without free leaves, of any size
pub record IsTreeGraph (g : List Node) : Type 0 where
  pub graph : IsGraph g
  pub labels : IsGround g
  pub canonical : IsCanonical g (0 ∷ [])

-- `tree` is the canonical graph of the tree of node `n`, which has no free leaf
pub record IsTreeGraphOf (g : List Node) (n : ℕ) (tree : List Node) : Type 0 where
  pub is_tree : IsTreeGraph tree
  pub same : Same tree 0 g n

-- `who` interns the tree of node `root` as number `h`: the table's answer for that tree's canonical graph
pub record InternsTo (old : TableObject) (who : ℕ) (g : List Node) (root h : ℕ) (new : TableObject) : Type 0 where
  pub tree : List Node
  pub is : IsTreeGraphOf g root tree
  pub kept : intern old who tree ≡ kept h new
