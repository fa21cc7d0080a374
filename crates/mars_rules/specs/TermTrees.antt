-- The trees of terms, where variables and kept names have given trees.
use Rattle.std.specs.Prelude.{ℕ, List, [], ◌∷◌, length, slice_get, Option, Some, None, option_and_then}
use Rattle.mars_tree.specs.declared.label.Label.{Label}
use Rattle.mars_tree.specs.declared.label.Label.TheVariants as label
use Rattle.mars_tree.specs.Graph.{Shown}
use Rattle.mars_term.specs.declared.term.Term.{Term, out-Term}
use Rattle.mars_term.specs.declared.term.Term.TheOpen as one
use Rattle.mars_matching.specs.Trees.{Trees, root_at, below}

-- the label at a term's root; a variable and a kept name have none
abbrev pub label_of_term : Term → Option Label
label_of_term term = elim (out-Term term) [
  | one.Var number ↦ None
  | one.Int number ↦ Some (label.Int number)
  | one.Name name terms ↦ Some (label.Name name (length terms))
  | one.Tup terms ↦ Some (label.Tup (length terms))
  | one.Dot left right ↦ Some label.Dot
  | one.Kept number ↦ None
  | one.Str name ↦ Some (label.Str name)
]

-- the arguments of a term, in order
abbrev pub arguments_of : Term → List Term
arguments_of term = elim (out-Term term) [
  | one.Name name terms ↦ terms
  | one.Tup terms ↦ terms
  | one.Dot left right ↦ left ∷ right ∷ []
  | _ ↦ []
]

-- the tree of a variable or of a kept name
abbrev pub own_tree : Trees → Trees → Term → List ℕ → Option Shown
own_tree vars kept term path = elim (out-Term term) [
  | one.Var number ↦ vars number path
  | one.Kept number ↦ kept number path
  | _ ↦ None
]

-- what the tree of a term shows at the end of a path, where variables and kept names have these trees
abbrev pub tree_of_term : Trees → Trees → Term → List ℕ → Option Shown
tree_of_term vars kept term [] = root_at (label_of_term term) (own_tree vars kept term [])
tree_of_term vars kept term (place ∷ path) =
    below (label_of_term term) (option_and_then (λ argument. tree_of_term vars kept argument path) (slice_get (arguments_of term) place)) (own_tree vars kept term (place ∷ path))

-- no trees, for kept names, which rules don't have
abbrev pub no_trees : Trees
no_trees number path = None

-- what the tree of a rule's term shows, where the rule's variables have these trees
abbrev pub rule_tree : Trees → Term → List ℕ → Option Shown
rule_tree vars term path = tree_of_term vars no_trees term path
