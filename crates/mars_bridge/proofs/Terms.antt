-- The tree of a term is told by the trees of the variables and kept names that it has.
use Rattle.std.proofs.Common.{◌≡◌, ℕ, zero, suc, List, [], ◌∷◌, ◌++◌, slice_get, Option, Some, None, option_and_then, All, refl, sym, ap, ◌∙◌, subst}
use Rattle.std.specs.List.{flat_map}
use Rattle.std.proofs.lemmas.Option.{same_Some, none-some, slice_get_within, get_or_from_slice_get}
use Rattle.std.proofs.lemmas.List.Elements.{All-head}
use Rattle.mars_term.specs.declared.term.Term.{Term, Term-F, Var, Name, Tup, Dot, Kept, out-Term, roll-Term, roll-out-Term}
use Rattle.mars_term.specs.declared.term.Term.TheOpen as one
use Rattle.mars_term.specs.declared.term.Term.TheViews.{outs-Var, outs-Name, outs-Tup, outs-Dot, outs-Kept}
use Rattle.mars_term.specs.Parts.{parts_of}
use Rattle.mars_matching.specs.Trees.{Trees, root_at, below}
use Rattle.mars_rules.specs.TermTrees.{label_of_term, arguments_of, own_tree, tree_of_term}
use Rattle.mars_bridge.specs.TermLaws.{IsAlike}
use Rattle.mars_rules.proofs.RuleParts.{own-part, name-parts, tuple-parts, dot-parts, item-parts, all-before, all-after}

pub same-term : (a b : Term) → out-Term a ≡ out-Term b → a ≡ b
same-term a b e = sym (roll-out-Term a) ∙ ap roll-Term e ∙ roll-out-Term b

module _ (vars others kept most : Trees) where
  own-same : (term : Term) (path : List ℕ) → IsAlike vars others kept most term → own_tree vars kept term path ≡ own_tree others most term path
  own-same term path alike = go (out-Term term) refl
    where
      go : (o : Term-F Term) → out-Term term ≡ o → own_tree vars kept term path ≡ own_tree others most term path
      go (one.Var n) e =
          let same : term ≡ Var n = same-term term (Var n) (e ∙ sym (outs-Var n)) in
          let here = All-head (λ x. (path : List ℕ) → vars x path ≡ others x path) n [] (subst (IsAlike vars others kept most) same alike).vars_are in
          rw (e, own_tree) (here path)
      go (one.Kept k) e =
          let same : term ≡ Kept k = same-term term (Kept k) (e ∙ sym (outs-Kept k)) in
          let here = All-head (λ k. (path : List ℕ) → kept k path ≡ most k path) k [] (subst (IsAlike vars others kept most) same alike).kept_are in
          rw (e, own_tree) (here path)
      go (one.Int z) e = rw (e, own_tree) refl
      go (one.Name name terms) e = rw (e, own_tree) refl
      go (one.Tup terms) e = rw (e, own_tree) refl
      go (one.Dot left right) e = rw (e, own_tree) refl
      go (one.Str name) e = rw (e, own_tree) refl

-- what holds of all parts of some terms holds of those of each
among : (P : Term → Type 0) (terms : List Term) (place : ℕ) (argument : Term) → All P (flat_map parts_of terms) → slice_get terms place ≡ Some argument → All P (parts_of argument)
among P terms place argument h e =
    subst (λ t. All P (parts_of t)) (get_or_from_slice_get terms place argument argument e) (item-parts P parts_of terms place argument (slice_get_within terms place argument e) h)

-- what holds of all parts of a term holds of those of an argument
pub argument-parts : (P : Term → Type 0) (term : Term) (place : ℕ) (argument : Term) → All P (parts_of term) → slice_get (arguments_of term) place ≡ Some argument → All P (parts_of argument)
argument-parts P term place argument all at_place = go (out-Term term) refl
  where
    none-there : (xs : List Term) → xs ≡ [] → slice_get xs place ≡ Some argument → All P (parts_of argument)
    none-there xs e f = absurd (none-some argument (ap (λ xs. slice_get xs place) (sym e) ∙ f))

    of : (terms : List Term) → arguments_of term ≡ terms → slice_get terms place ≡ Some argument
    of terms e = ap (λ xs. slice_get xs place) (sym e) ∙ at_place

    go : (o : Term-F Term) → out-Term term ≡ o → All P (parts_of argument)
    go (one.Name name terms) e =
        let same : term ≡ Name name terms = same-term term (Name name terms) (e ∙ sym (outs-Name name terms)) in
        among P terms place argument (name-parts P name terms (subst (λ t. All P (parts_of t)) same all)) (of terms (rw (e, arguments_of) refl))
    go (one.Tup terms) e =
        let same : term ≡ Tup terms = same-term term (Tup terms) (e ∙ sym (outs-Tup terms)) in
        among P terms place argument (tuple-parts P terms (subst (λ t. All P (parts_of t)) same all)) (of terms (rw (e, arguments_of) refl))
    go (one.Dot left right) e =
        let same : term ≡ Dot left right = same-term term (Dot left right) (e ∙ sym (outs-Dot left right)) in
        let both = dot-parts P left right (subst (λ t. All P (parts_of t)) same all) in
        two left right both place (of (left ∷ right ∷ []) (rw (e, arguments_of) refl))
      where
        two : (left right : Term) → All P (parts_of left ++ parts_of right) → (place : ℕ) → slice_get (left ∷ right ∷ []) place ≡ Some argument → All P (parts_of argument)
        two left right both zero f = subst (λ t. All P (parts_of t)) (same_Some left argument f) (all-before P (parts_of left) (parts_of right) both)
        two left right both (suc zero) f = subst (λ t. All P (parts_of t)) (same_Some right argument f) (all-after P (parts_of left) (parts_of right) both)
        two left right both (suc (suc n)) f = absurd (none-some argument f)
    go (one.Var n) e = none-there (arguments_of term) (rw (e, arguments_of) refl) at_place
    go (one.Kept k) e = none-there (arguments_of term) (rw (e, arguments_of) refl) at_place
    go (one.Int z) e = none-there (arguments_of term) (rw (e, arguments_of) refl) at_place
    go (one.Str name) e = none-there (arguments_of term) (rw (e, arguments_of) refl) at_place

-- terms show the same where their variables and kept names do
pub tree_same : (vars others kept most : Trees) (path : List ℕ) (term : Term) → All (IsAlike vars others kept most) (parts_of term)
    → tree_of_term vars kept term path ≡ tree_of_term others most term path
tree_same vars others kept most [] term all =
    ap (root_at (label_of_term term)) (own-same vars others kept most term [] (own-part (IsAlike vars others kept most) term all))
tree_same vars others kept most (place ∷ path) term all =
    ap (below (label_of_term term) (option_and_then (λ argument. tree_of_term vars kept argument path) (slice_get (arguments_of term) place)))
    (own-same vars others kept most term (place ∷ path) (own-part (IsAlike vars others kept most) term all))
    ∙ ap (λ kid. below (label_of_term term) kid (own_tree others most term (place ∷ path))) (kids (λ argument e. tree_same vars others kept most path argument (argument-parts (IsAlike vars others kept most) term place argument all e)) (slice_get (arguments_of term) place) refl)
  where
    kids : ((argument : Term) → slice_get (arguments_of term) place ≡ Some argument → tree_of_term vars kept argument path ≡ tree_of_term others most argument path)
        → (o : Option Term) → slice_get (arguments_of term) place ≡ o
        → option_and_then (λ argument. tree_of_term vars kept argument path) o ≡ option_and_then (λ argument. tree_of_term others most argument path) o
    kids same None e = refl
    kids same (Some argument) e = same argument e
