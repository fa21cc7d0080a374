-- Inside: how a store keeps its equations, as a link for each node and a list in the order in which they came.
use Rattle.std.specs.Prelude.{◌≡◌, ℕ, ◌<◌, List, [], ◌∷◌, length, slice_index, if◌then◌else◌, ◌==◌}
use Rattle.mars_tree.specs.Graph.{Node}
use Rattle.mars_store.specs.System.{IsSystem}

-- what a variable is bound to, or else itself
abbrev pub target_of : List (ℕ × ℕ) → ℕ → ℕ
target_of [] n = n
target_of (equation ∷ later) n = if n == equation.0 then equation.1 else target_of later n

-- what is true of the nodes, their links and the trail
pub record IsStored (nodes : List Node) (links : List ℕ) (bound : List (ℕ × ℕ)) : Type 0 where
  pub system : IsSystem (record { nodes = nodes; bound = bound })
  pub sizes : length links ≡ length nodes
  pub kept : (n : ℕ) → n < length links → slice_index links n ≡ target_of bound n
