-- What paths from a node lead to.
use Rattle.std.specs.Prelude.{◌≡◌, ◌≢◌, ℕ, List, Some, None, All, Contains}
use Rattle.mars_tree.specs.Graph.{Node, label_of, end_of}

-- a path from node `n` ends at a free leaf
pub record ReachesFree (g : List Node) (n : ℕ) : Type 0 where
  pub path : List ℕ
  pub leaf : ℕ
  pub ends : end_of g n path ≡ Some leaf
  pub free : label_of g leaf ≡ None

-- no free leaf ends a path from node `n`
abbrev pub ReachesNoFree : List Node → ℕ → Type 0
ReachesNoFree g n = (path : List ℕ) (m : ℕ) → end_of g n path ≡ Some m → label_of g m ≢ None

-- one of the nodes is a free leaf
abbrev pub HasFree : List Node → List ℕ → Type 0
HasFree g nodes = (n : ℕ) × Contains nodes n × (label_of g n ≡ None)

-- none of the nodes is a free leaf
abbrev pub HasNoFree : List Node → List ℕ → Type 0
HasNoFree g nodes = All (λ n. label_of g n ≢ None) nodes
