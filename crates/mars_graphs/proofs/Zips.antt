-- Lists whose items are related, place by place.
use Rattle.std.proofs.Common.{◌≡◌, ℕ, zero, suc, List, [], ◌∷◌, ◌++◌, length, take, drop, ap, refl, Option, Some, None, slice_get}
use Rattle.std.specs.List.{AllZip}

module _ {A B : Type 0} (R : A → B → Type 0) where
  pub zip-take : (n : ℕ) (xs : List A) (ys : List B) → AllZip R xs ys → AllZip R (take n xs) (take n ys)
  zip-take zero xs ys z = tt
  zip-take (suc n) [] [] z = tt
  zip-take (suc n) [] (y ∷ ys) z = absurd z
  zip-take (suc n) (x ∷ xs) [] z = absurd z
  zip-take (suc n) (x ∷ xs) (y ∷ ys) z = (z.0, zip-take n xs ys z.1)

  pub zip-drop : (n : ℕ) (xs : List A) (ys : List B) → AllZip R xs ys → AllZip R (drop n xs) (drop n ys)
  zip-drop zero xs ys z = z
  zip-drop (suc n) [] [] z = tt
  zip-drop (suc n) [] (y ∷ ys) z = absurd z
  zip-drop (suc n) (x ∷ xs) [] z = absurd z
  zip-drop (suc n) (x ∷ xs) (y ∷ ys) z = zip-drop n xs ys z.1

  pub zip-push : (xs : List A) (ys : List B) (x : A) (y : B) → AllZip R xs ys → R x y → AllZip R (xs ++ x ∷ []) (ys ++ y ∷ [])
  zip-push [] [] x y z r = (r, tt)
  zip-push [] (w ∷ ys) x y z r = absurd z
  zip-push (v ∷ xs) [] x y z r = absurd z
  zip-push (v ∷ xs) (w ∷ ys) x y z r = (z.0, zip-push xs ys x y z.1 r)

  pub zip-length : (xs : List A) (ys : List B) → AllZip R xs ys → length xs ≡ length ys
  zip-length [] [] z = refl
  zip-length [] (y ∷ ys) z = absurd z
  zip-length (x ∷ xs) [] z = absurd z
  zip-length (x ∷ xs) (y ∷ ys) z = ap suc (zip-length xs ys z.1)

  -- what is at one place of both
  abbrev pub BothAre : Option A → Option B → Type 0
  BothAre None None = Unit {0}
  BothAre (Some x) (Some y) = R x y
  BothAre None (Some y) = ⊥
  BothAre (Some x) None = ⊥

  pub zip-get : (xs : List A) (ys : List B) (k : ℕ) → AllZip R xs ys → BothAre (slice_get xs k) (slice_get ys k)
  zip-get [] [] k z = tt
  zip-get [] (y ∷ ys) k z = absurd z
  zip-get (x ∷ xs) [] k z = absurd z
  zip-get (x ∷ xs) (y ∷ ys) zero z = z.0
  zip-get (x ∷ xs) (y ∷ ys) (suc k) z = zip-get xs ys k z.1

pub zip-weaker : {A B : Type 0} (R S : A → B → Type 0) → ((x : A) (y : B) → R x y → S x y) → (xs : List A) (ys : List B) → AllZip R xs ys → AllZip S xs ys
zip-weaker R S f [] [] z = tt
zip-weaker R S f [] (y ∷ ys) z = absurd z
zip-weaker R S f (x ∷ xs) [] z = absurd z
zip-weaker R S f (x ∷ xs) (y ∷ ys) z = (f x y z.0, zip-weaker R S f xs ys z.1)
