-- What the steps of a tree make of nodes: the same as they write of terms.
use Rattle.std.specs.Prelude.{◌≡◌, ℕ, ◌<◌, ◌-◌, ◌||◌, List, [], ◌∷◌, ◌++◌, length, take, drop, Option, Some, None, Bool, false, slice_get, if◌then◌else◌, All}
use Rattle.mars_tree.specs.declared.label.Label.{Label}
use Rattle.mars_tree.specs.declared.label.NameId.{NameId}
use Rattle.mars_tree.specs.Graph.{Node, labelled, label_of}
use Rattle.mars_graphs.specs.declared.maker.Head.{Head}
use Rattle.mars_graphs.specs.Nodes.{Nodes, no_nodes, leaf_of_variable, target_at, nodes_with, nodes_with_variable, nodes_with_target, gives_way, AreNodes, tied_graph}
use Rattle.mars_graphs.specs.Steps.{TreeStep, Variable, Leaf, Open, Close, Equate, Define, label_over, terms_before, no_variable}

-- as `Writing`, with a node for each term and a leaf for each variable
pub record Making : Type 0 where
  pub nodes : Nodes
  pub terms : List ℕ
  pub heads : List (Head × ℕ)
  pub left : Option ℕ
  pub twice : Bool

abbrev pub nothing_made : Making
nothing_made = record { nodes = no_nodes; terms = []; heads = []; left = None; twice = false }

-- the leaf of a variable that has one
abbrev pub leaf_or : Option ℕ → ℕ
leaf_or None = 0
leaf_or (Some leaf) = leaf

-- with the leaf of a variable
abbrev pub with_leaf : Nodes → NameId → Nodes × ℕ
with_leaf b x = (nodes_with_variable b x, leaf_or (leaf_of_variable (nodes_with_variable b x) x))

-- the kids get a node with the label; without a label they stay
abbrev pub made_over : Making → Option Label → ℕ → List (Head × ℕ) → Making
made_over m None count heads = record m { heads = heads }
made_over m (Some l) count heads = record m { nodes = nodes_with m.nodes (labelled l (drop count m.terms)); terms = take count m.terms ++ length m.nodes.nodes ∷ []; heads = heads }

-- the last open head is closed
abbrev pub closed_making : Making → List (Head × ℕ) → Making
closed_making m [] = m
closed_making m (last ∷ heads) = made_over m (label_over last.0 (length (drop last.1 m.terms))) last.1 heads

-- the variable's leaf gives way to a labelled root, unless it gives way already
abbrev pub tied_nodes : Nodes → Option ℕ → ℕ → Option Label → Nodes
tied_nodes b (Some leaf) root (Some l) = if gives_way b leaf then b else nodes_with_target b leaf root
tied_nodes b _ root _ = b

-- the last term is that of the equation
abbrev pub defined_making : Making → Option ℕ → Making
defined_making m None = m
defined_making m (Some last) = record m { nodes = tied_nodes m.nodes m.left last (label_of m.nodes.nodes last); terms = take (length m.terms - 1) m.terms }

-- what a step makes
abbrev pub makes : Making → TreeStep → Making
makes m (Variable x) = record m { nodes = (with_leaf m.nodes x).0; terms = m.terms ++ (with_leaf m.nodes x).1 ∷ [] }
makes m (Leaf l) = record m { nodes = nodes_with m.nodes (labelled l []); terms = m.terms ++ length m.nodes.nodes ∷ [] }
makes m (Open h) = record m { heads = (h, terms_before h (length m.terms)) ∷ m.heads }
makes m Close = closed_making m m.heads
makes m (Equate x) = record m { nodes = (with_leaf m.nodes x).0; left = Some (with_leaf m.nodes x).1; twice = m.twice || gives_way (with_leaf m.nodes x).0 (with_leaf m.nodes x).1 }
makes m Define = defined_making m (slice_get m.terms (length m.terms - 1))

-- what steps make, one after the other
abbrev pub makes_all : Making → List TreeStep → Making
makes_all m [] = m
makes_all m (step ∷ steps) = makes_all (makes m step) steps

-- where there is no term, there is a leaf for the variable with the first number
abbrev pub rooted : Making → Option ℕ → Nodes × ℕ
rooted m (Some root) = (m.nodes, root)
rooted m None = with_leaf m.nodes no_variable

-- all nodes, and the node of the tree's own term
abbrev pub whole : Making → Nodes × ℕ
whole m = rooted m (slice_get m.terms 0)

-- the graph that was made, and its root
abbrev pub made_graph : Making → List Node
made_graph m = tied_graph (whole m).0

abbrev pub made_root : Making → ℕ
made_root m = target_at (whole m).0 (whole m).1

-- a leaf of some variable
abbrev pub IsSomeLeaf : Nodes → Option ℕ → Type 0
IsSomeLeaf b None = Unit {0}
IsSomeLeaf b (Some leaf) = (x : NameId) × (leaf_of_variable b x ≡ Some leaf)

-- what holds of all that is made
pub record IsMaking (m : Making) : Type 0 where
  pub nodes : AreNodes m.nodes
  pub terms : All (λ term. term < length m.nodes.nodes) m.terms
  pub left : IsSomeLeaf m.nodes m.left
