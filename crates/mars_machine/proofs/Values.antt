-- What the trees of terms show, for each kind of term.
use Rattle.std.proofs.Common.{◌≡◌, ℕ, ◌+◌, List, [], ◌∷◌, length, slice_get, Some, option_and_then, refl}
use Rattle.mars_tree.specs.declared.label.Label.TheVariants.{Name as NameLabel}
use Rattle.mars_tree.specs.declared.label.NameId.{NameId}
use Rattle.mars_tree.specs.Graph.{Node, label as at_label}
use Rattle.mars_store.specs.Valuation.{Valuation, value}
use Rattle.mars_term.specs.declared.term.Term.{Term, Var, Name}
use Rattle.mars_term.specs.declared.term.Term.TheViews.{outs-Var}
use Rattle.mars_rules.specs.TermTrees.{label_of_term, own_tree}
use Rattle.mars_rules.proofs.TermFacts.{label-Name, arguments-Name}
use Rattle.mars_machine.specs.Subjects.{Renamed, subject_value}

-- a name shows its label
pub value-name : (kept : List (List Node)) (v : Valuation) (first : ℕ) (name : NameId) (terms : List Term)
    → subject_value kept v (Renamed first (Name name terms)) [] ≡ Some (at_label (NameLabel name (length terms)))
value-name kept v first name terms = rw (label-Name name terms) refl

-- and below it what its arguments show
pub value-argument : (kept : List (List Node)) (v : Valuation) (first : ℕ) (name : NameId) (terms : List Term) (place : ℕ) (path : List ℕ)
    → subject_value kept v (Renamed first (Name name terms)) (place ∷ path) ≡ option_and_then (λ term. subject_value kept v (Renamed first term) path) (slice_get terms place)
value-argument kept v first name terms place path = rw (label-Name name terms, arguments-Name name terms) refl

-- a variable shows its own tree
pub value-variable : (kept : List (List Node)) (v : Valuation) (first x : ℕ) (path : List ℕ) → subject_value kept v (Renamed first (Var x)) path ≡ value v (first + x) path
value-variable kept v first x [] = rw (outs-Var x, label_of_term, own_tree) refl
value-variable kept v first x (place ∷ path) = rw (outs-Var x, label_of_term, own_tree) refl
