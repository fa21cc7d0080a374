-- Lists that begin others, and places in lists.
use Rattle.std.proofs.Common.{◌≡◌, ◌≢◌, ℕ, zero, suc, ◌+◌, List, [], ◌∷◌, ◌++◌, length, refl, ap, sym, ◌∙◌, arith, append-nil, append_assoc}
use Rattle.std.specs.Prelude.{Some, slice_get, slice_set, replicate}
use Rattle.mars_session.specs.SessionAlone.{BeginsWith}

module _ {A : Type 0} where
  pub begins_same : (xs : List A) → BeginsWith xs xs
  begins_same xs = ([], sym (append-nil xs))

  pub begins_more : (xs ys : List A) → BeginsWith xs (xs ++ ys)
  begins_more xs ys = (ys, refl)

  pub begins_on : (xs ys zs : List A) → BeginsWith xs ys → BeginsWith ys zs → BeginsWith xs zs
  begins_on xs ys zs a b = (a.0 ++ b.0, b.1 ∙ ap (λ l. l ++ b.0) a.1 ∙ append_assoc xs a.0 b.0)

  -- the next item of two lists that begin one is one
  pub next_same : (xs : List A) (x y : A) (zs : List A) → BeginsWith (xs ++ x ∷ []) zs → BeginsWith (xs ++ y ∷ []) zs → x ≡ y
  next_same [] x y zs a b = cc (a.1, b.1)
  next_same (w ∷ xs) x y [] a b = absurd (cc (a.1))
  next_same (w ∷ xs) x y (z ∷ zs) a b =
      let tail : (u : A) → (s : List A) → z ∷ zs ≡ (w ∷ xs ++ u ∷ []) ++ s → zs ≡ (xs ++ u ∷ []) ++ s = λ u s e. (cc e) in
      next_same xs x y zs (a.0, tail x a.0 a.1) (b.0, tail y b.0 b.1)

  pub begins_length : (xs ys : List A) → BeginsWith xs ys → length xs + 0 ≡ length ys → ys ≡ xs
  begins_length [] [] a e = refl
  begins_length [] (y ∷ ys) a e = absurd (omega (arith, e))
  begins_length (x ∷ xs) [] a e = absurd (omega (arith, e))
  begins_length (x ∷ xs) (y ∷ ys) a e =
      let head : y ≡ x = (cc (a.1)) in
      let rest : ys ≡ xs ++ a.0 = (cc (a.1)) in
      λ i. head i ∷ begins_length xs ys (a.0, rest) (omega (arith, e)) i

  pub get_set_same : (xs : List A) (i : ℕ) (x y : A) → slice_get xs i ≡ Some x → slice_get (slice_set xs i y) i ≡ Some y
  get_set_same [] i x y e = absurd cc
  get_set_same (w ∷ xs) zero x y e = refl
  get_set_same (w ∷ xs) (suc i) x y e = get_set_same xs i x y e

  pub get_set_other : (xs : List A) (i j : ℕ) (y : A) → j ≢ i → slice_get (slice_set xs i y) j ≡ slice_get xs j
  get_set_other [] i j y ne = refl
  get_set_other (w ∷ xs) zero zero y ne = absurd (ne refl)
  get_set_other (w ∷ xs) zero (suc j) y ne = refl
  get_set_other (w ∷ xs) (suc i) zero y ne = refl
  get_set_other (w ∷ xs) (suc i) (suc j) y ne = get_set_other xs i j y (λ e. ne (ap suc e))

  pub set_same : (xs : List A) (i : ℕ) (x : A) → slice_get xs i ≡ Some x → slice_set xs i x ≡ xs
  set_same [] i x e = refl
  set_same (w ∷ xs) zero x e = ap (λ v. v ∷ xs) (cc e)
  set_same (w ∷ xs) (suc i) x e = ap (λ l. w ∷ l) (set_same xs i x e)

  pub set_twice : (xs : List A) (i : ℕ) (x y : A) → slice_set (slice_set xs i x) i y ≡ slice_set xs i y
  set_twice [] i x y = refl
  set_twice (w ∷ xs) zero x y = refl
  set_twice (w ∷ xs) (suc i) x y = ap (λ l. w ∷ l) (set_twice xs i x y)

  pub length_set : (xs : List A) (i : ℕ) (x : A) → length (slice_set xs i x) ≡ length xs
  length_set [] i x = refl
  length_set (w ∷ xs) zero x = refl
  length_set (w ∷ xs) (suc i) x = ap suc (length_set xs i x)

  pub replicate_snoc : (n : ℕ) (x : A) → replicate n x ++ x ∷ [] ≡ replicate (suc n) x
  replicate_snoc zero x = refl
  replicate_snoc (suc n) x = ap (λ l. x ∷ l) (replicate_snoc n x)
