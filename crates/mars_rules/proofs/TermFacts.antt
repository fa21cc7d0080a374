-- The labels, arguments and trees of terms of each kind.
use Rattle.std.proofs.Common.{◌≡◌, ℕ, ℤ, List, [], ◌∷◌, length, slice_get, Some, None, refl, sym, ap, ◌∙◌}
use Rattle.mars_tree.specs.declared.label.NameId.{NameId}
use Rattle.mars_tree.specs.declared.label.Label.TheVariants as label
use Rattle.mars_term.specs.declared.term.Term.{Term, Var, Int, Name, Tup, Dot, Str}
use Rattle.mars_term.specs.declared.term.Term.TheViews.{outs-Var, outs-Int, outs-Name, outs-Tup, outs-Dot, outs-Str}
use Rattle.mars_term.specs.Parts.{list_of}
use Rattle.mars_matching.specs.Trees.{Trees}
use Rattle.std.proofs.lemmas.Option.{same_Some, none-some}
use Rattle.mars_rules.specs.TermTrees.{label_of_term, arguments_of, own_tree, rule_tree}
use Rattle.mars_rules.specs.Candidates.{label_of_first}

pub label-Var : (n : ℕ) → label_of_term (Var n) ≡ None
label-Var n = rw (outs-Var n, label_of_term) refl

pub label-Int : (n : ℤ) → label_of_term (Int n) ≡ Some (label.Int n)
label-Int n = rw (outs-Int n, label_of_term) refl

pub label-Name : (name : NameId) (terms : List Term) → label_of_term (Name name terms) ≡ Some (label.Name name (length terms))
label-Name name terms = rw (outs-Name name terms, label_of_term) refl

pub label-Tup : (terms : List Term) → label_of_term (Tup terms) ≡ Some (label.Tup (length terms))
label-Tup terms = rw (outs-Tup terms, label_of_term) refl

pub label-Dot : (left right : Term) → label_of_term (Dot left right) ≡ Some label.Dot
label-Dot left right = rw (outs-Dot left right, label_of_term) refl

pub label-Str : (name : NameId) → label_of_term (Str name) ≡ Some (label.Str name)
label-Str name = rw (outs-Str name, label_of_term) refl

pub arguments-Int : (n : ℤ) → arguments_of (Int n) ≡ []
arguments-Int n = rw (outs-Int n, arguments_of) refl

pub arguments-Name : (name : NameId) (terms : List Term) → arguments_of (Name name terms) ≡ terms
arguments-Name name terms = rw (outs-Name name terms, arguments_of) refl

pub arguments-Tup : (terms : List Term) → arguments_of (Tup terms) ≡ terms
arguments-Tup terms = rw (outs-Tup terms, arguments_of) refl

pub arguments-Dot : (left right : Term) → arguments_of (Dot left right) ≡ left ∷ right ∷ []
arguments-Dot left right = rw (outs-Dot left right, arguments_of) refl

pub arguments-Str : (name : NameId) → arguments_of (Str name) ≡ []
arguments-Str name = rw (outs-Str name, arguments_of) refl

pub list-Name : (name : NameId) (terms : List Term) → list_of (Name name terms) ≡ terms
list-Name name terms = rw (outs-Name name terms, list_of) refl

pub list-Tup : (terms : List Term) → list_of (Tup terms) ≡ terms
list-Tup terms = rw (outs-Tup terms, list_of) refl

-- a variable has its own tree
pub tree-Var : (trees : Trees) (n : ℕ) (path : List ℕ) → rule_tree trees (Var n) path ≡ trees n path
tree-Var trees n [] = rw (outs-Var n, label_of_term, own_tree) refl
tree-Var trees n (k ∷ path) = rw (outs-Var n, label_of_term, own_tree) refl

-- the label of the first argument
pub first-label : (term : Term) (name : NameId) (terms : List Term) (argument : Term) → term ≡ Name name terms → slice_get terms 0 ≡ Some argument
    → label_of_first (arguments_of term) ≡ label_of_term argument
first-label term name terms argument is e = ap (λ t. label_of_first (arguments_of t)) is ∙ ap label_of_first (arguments-Name name terms) ∙ go terms e
  where
    go : (terms : List Term) → slice_get terms 0 ≡ Some argument → label_of_first terms ≡ label_of_term argument
    go [] e = absurd (none-some argument e)
    go (t ∷ terms) e = ap label_of_term (same_Some t argument e)

pub no-first : (term : Term) (name : NameId) (terms : List Term) → term ≡ Name name terms → slice_get terms 0 ≡ None → label_of_first (arguments_of term) ≡ None
no-first term name terms is e = ap (λ t. label_of_first (arguments_of t)) is ∙ ap label_of_first (arguments-Name name terms) ∙ go terms e
  where
    go : (terms : List Term) → slice_get terms 0 ≡ None → label_of_first terms ≡ None
    go [] e = refl
    go (t ∷ terms) e = absurd (none-some t (sym e))
