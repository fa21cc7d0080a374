-- Small graphs, on which the definitions compute and a numbering is refused.
use Rattle.std.specs.Prelude.{◌≡◌, ◌≢◌, ℕ, List, [], ◌∷◌, Some, None}
use Rattle.mars_tree.specs.declared.label.Label.{Label}
use Rattle.mars_tree.specs.declared.label.Label.TheVariants.{Name}
use Rattle.mars_tree.specs.Graph.{Node, labelled, free_leaf, at}
use Rattle.mars_tree.specs.Graph as graph
use Rattle.mars_tree.specs.Canonical.{mentions, known_after, FirstInOrder}

-- the label of a name with so many arguments
abbrev pub named : ℕ → ℕ → Label
named n arity = Name (record { 0 = n }) arity

-- x = ff(x)
abbrev pub loop : List Node
loop = labelled (named 13 1) (0 ∷ []) ∷ []

-- gg(aa, x), where x is free
abbrev pub half_open : List Node
half_open = labelled (named 14 2) (1 ∷ 2 ∷ []) ∷ labelled (named 15 0) [] ∷ free_leaf ∷ []

-- gg(x, aa), with its kids numbered in the other order
abbrev pub disordered : List Node
disordered = labelled (named 14 2) (2 ∷ 1 ∷ []) ∷ labelled (named 15 0) [] ∷ free_leaf ∷ []

-- aa, and a node whose only mention is by itself
abbrev pub unreached : List Node
unreached = labelled (named 13 0) [] ∷ labelled (named 14 1) (1 ∷ []) ∷ []

-- what the ends of paths show, and which numberings are in order
pub record Examples : Type 0 where
  pub around : at loop 0 (0 ∷ 0 ∷ 0 ∷ []) ≡ Some (graph.label (named 13 1))
  pub beside : at loop 0 (1 ∷ []) ≡ None
  pub free : at half_open 0 (1 ∷ []) ≡ Some (graph.free 2)
  pub below : at half_open 0 (1 ∷ 0 ∷ []) ≡ None
  pub loop_in_order : known_after 0 (mentions (0 ∷ []) loop) ≡ Some 1
  pub tree_in_order : known_after 0 (mentions (0 ∷ []) half_open) ≡ Some 3
  pub skipped : known_after 0 (mentions (0 ∷ []) disordered) ≡ None
  -- `early` alone refuses `unreached`: its numbers are in order and its nodes are different trees
  pub unreached_in_order : known_after 0 (mentions (0 ∷ []) unreached) ≡ Some 2
  pub unreached_labels : at unreached 0 [] ≢ at unreached 1 []
  pub unreached_refused : FirstInOrder unreached (0 ∷ []) → ⊥
