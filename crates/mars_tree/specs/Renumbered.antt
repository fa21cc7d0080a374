-- Nodes of a graph as they are under other numbers.
use Rattle.std.specs.Prelude.{ℕ, ◌<◌, List, map, All}
use Rattle.std.specs.List.{flat_map}
use Rattle.mars_tree.specs.Graph.{Node, label_of, kids_of}

-- a node with its kids under other numbers
abbrev pub renumbered_node : List Node → (ℕ → ℕ) → ℕ → Node
renumbered_node g number n = record { label = label_of g n; kids = map number (kids_of g n) }

-- the nodes of a list, with their kids under other numbers
abbrev pub renumbered : List Node → (ℕ → ℕ) → List ℕ → List Node
renumbered g number nodes = map (renumbered_node g number) nodes

-- a fact holds of all kids of the nodes
abbrev pub HaveKids : (ℕ → Type 0) → List Node → List ℕ → Type 0
HaveKids P g nodes = All (λ n. All P (kids_of g n)) nodes

-- the kids of the nodes have numbers below the count
abbrev pub KidsFit : List Node → (ℕ → ℕ) → ℕ → List ℕ → Type 0
KidsFit g number count nodes = All (λ n. All (λ kid. number kid < count) (kids_of g n)) nodes

-- all kids of the nodes, under other numbers
abbrev pub renumbered_kids : List Node → (ℕ → ℕ) → List ℕ → List ℕ
renumbered_kids g number nodes = flat_map (λ n. map number (kids_of g n)) nodes
