-- Rows of dots that grow at their end.
use Rattle.std.proofs.Common.{◌≡◌, ◌≤◌, List, [], ◌∷◌, ◌++◌, refl, ap, sym, ◌∙◌, ℕ, rules}
use Rattle.mars_term.specs.declared.term.Term.{Term, Dot, size-Term, the_lemmas}
use Rattle.mars_term.specs.Rows.{dots}

-- a row whose last one is taken in
pub dots-push : (firsts : List Term) (first last : Term) → dots (firsts ++ first ∷ []) last ≡ dots firsts (Dot first last)
dots-push [] first last = refl
dots-push (x ∷ firsts) first last = ap (Dot x) (dots-push firsts first last)

-- the first part of the last one is taken in
pub dots-step : (firsts longer : List Term) (last copy left right whole : Term) → last ≡ Dot left right → copy ≡ left →
    longer ≡ firsts ++ copy ∷ [] → dots firsts last ≡ whole → dots longer right ≡ whole
dots-step firsts longer last copy left right whole is same grown before =
    ap (λ (ts : List Term). dots ts right) grown ∙ dots-push firsts copy right ∙ ap (λ (t : Term). dots firsts (Dot t right)) same
    ∙ sym (ap (dots firsts) is) ∙ before

-- what is left of a row is no deeper
pub dots-falls : (last left right : Term) (most : ℕ) → last ≡ Dot left right → size-Term last ≤ most → size-Term right ≤ most
dots-falls last left right most is below = search (the_lemmas, rules)
