-- Variables that are known, and one more.
use Rattle.std.proofs.Common.{◌≡◌, ◌<◌, ℕ, zero, suc, List, [], ◌∷◌, ◌++◌, length, refl, ap, sym, ◌∙◌, arith, Bool, true, false, Some, slice_get, ◌==◌, inl, inr}
use Rattle.std.proofs.lemmas.Bool.Decides.{nat_tests}
use Rattle.std.specs.List.{list_any, position_or_len}
use Rattle.mars_base.specs.Lists.{AreDistinct}
use Rattle.mars_base.proofs.ListFacts.{get-push}
use Rattle.mars_tree.specs.declared.label.NameId.{NameId}
use Rattle.mars_clauses.specs.Terms.{number_of}

module _ {X : Type 0} (p : X → Bool) where
  below-by : (x : X) (xs : List X) (b : Bool) → p x ≡ b → (list_any p xs ≡ true → position_or_len p xs < length xs) → list_any p (x ∷ xs) ≡ true → position_or_len p (x ∷ xs) < length (x ∷ xs)
  below-by x xs true e later any = rw e (omega arith)
  below-by x xs false e later any = let l = later (rw e at any) in rw e (omega arith)

  pub any-below : (xs : List X) → list_any p xs ≡ true → position_or_len p xs < length xs
  any-below [] any = cc
  any-below (x ∷ xs) any = below-by x xs (p x) refl (any-below xs) any

  last-by : (x : X) (xs : List X) (b : Bool) → p x ≡ b → (list_any p xs ≡ false → position_or_len p xs ≡ length xs) → list_any p (x ∷ xs) ≡ false → position_or_len p (x ∷ xs) ≡ length (x ∷ xs)
  last-by x xs true e later any = let k = rw e at any in cc
  last-by x xs false e later any = let l = later (rw e at any) in rw e (omega arith)

  pub none-last : (xs : List X) → list_any p xs ≡ false → position_or_len p xs ≡ length xs
  none-last [] any = refl
  none-last (x ∷ xs) any = last-by x xs (p x) refl (none-last xs) any

  none-by : (x : X) (xs : List X) (b : Bool) → p x ≡ b → list_any p (x ∷ xs) ≡ false → (p x ≡ false) × (list_any p xs ≡ false)
  none-by x xs true e any = let k = rw e at any in cc
  none-by x xs false e any = (e, rw e at any)

  pub none-at : (xs : List X) (k : ℕ) (x : X) → list_any p xs ≡ false → slice_get xs k ≡ Some x → p x ≡ false
  none-at [] k x any at = cc
  none-at (y ∷ xs) zero x any at = let h = none-by y xs (p y) refl any in cc
  none-at (y ∷ xs) (suc k) x any at = none-at xs k x (none-by y xs (p y) refl any).1 at

pub known-below : (name : NameId) (vars : List NameId) → list_any (λ var. name.0 == var.0) vars ≡ true → number_of name vars < length vars
known-below name vars any = any-below (λ (var : NameId). name.0 == var.0) vars any

pub unknown-last : (name : NameId) (vars : List NameId) → list_any (λ var. name.0 == var.0) vars ≡ false → number_of name vars ≡ length vars
unknown-last name vars any = none-last (λ (var : NameId). name.0 == var.0) vars any

itself : (name : NameId) → (name.0 == name.0) ≡ true
itself name = grind (arith, nat_tests)

-- a name that isn't among the variables isn't at any place
not-there : (name : NameId) (vars : List NameId) (i : ℕ) → list_any (λ var. name.0 == var.0) vars ≡ false → slice_get vars i ≡ Some name → ⊥
not-there name vars i any at = let h = none-at (λ (var : NameId). name.0 == var.0) vars i name any at in let k = itself name in cc

pub distinct-var : (name : NameId) (vars : List NameId) → AreDistinct vars → list_any (λ var. name.0 == var.0) vars ≡ false → AreDistinct (vars ++ name ∷ [])
distinct-var name vars distinct any i j x at other = elim (get-push vars name i x at) [
  | inl before ↦ elim (get-push vars name j x other) [
    | inl earlier ↦ distinct i j x before earlier
    | inr last ↦ absurd (not-there name vars i any (before ∙ ap Some (sym last.1)))
  ]
  | inr last ↦ elim (get-push vars name j x other) [
    | inl earlier ↦ absurd (not-there name vars j any (earlier ∙ ap Some (sym last.1)))
    | inr end ↦ last.0 ∙ sym end.0
  ]
]
