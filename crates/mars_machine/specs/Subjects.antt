-- Valuations of terms: what the tree of a term shows, where variables and kept names have trees.
use Rattle.std.specs.Prelude.{ℕ, ◌+◌, List, ◌∷◌, slice_get, Option, option_and_then}
use Rattle.mars_tree.specs.Graph.{Node, Shown, at}
use Rattle.mars_term.specs.declared.term.Term.{Term}
use Rattle.mars_store.specs.Valuation.{Valuation, value}
use Rattle.mars_matching.specs.Trees.{Trees}
use Rattle.mars_rules.specs.TermTrees.{tree_of_term}

-- a term that a derivation speaks of: one of the ask or of a rule, whose variables are renamed to those from a number on, in
-- their order; or the part of another at a place, which is an argument of it, or a kid of the tree that it has
pub data Subject : Type 0 where
  Renamed : ℕ → Term → Subject
  Part : Subject → ℕ → Subject

-- the trees of the kept names: each is the graph of one tree, from node 0
abbrev pub kept_trees : List (List Node) → Trees
kept_trees kept number path = option_and_then (λ graph. at graph 0 path) (slice_get kept number)

-- what the tree of a subject shows at the end of a path: of a variable that of its node, of a kept name that of its tree,
-- else the term's own label at the empty path, and what an argument shows below
abbrev pub subject_value : List (List Node) → Valuation → Subject → List ℕ → Option Shown
subject_value kept v (Renamed first term) path = tree_of_term (λ variable. value v (first + variable)) (kept_trees kept) term path
subject_value kept v (Part subject place) path = subject_value kept v subject (place ∷ path)
