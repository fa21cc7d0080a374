-- Lists that are taken apart from the end and turned round, and lists that are related place by place.
use Rattle.std.proofs.Common.{◌≡◌, ℕ, zero, suc, ◌<◌, List, [], ◌∷◌, ◌++◌, length, map, take, drop, Some, slice_get, refl, sym, ap, ◌∙◌, subst, arith, append-nil}
use Rattle.std.specs.List.{AllZip, slice_index_or}
use Rattle.std.proofs.lemmas.Option.{same_Some}
use Rattle.std.specs.Prelude.{reverse}
use Rattle.std.proofs.lemmas.List.{map-append, reverse-append, take_all, drop_all}

module _ {A B : Type 0} (f : A → B) where
  map_reverse : (xs : List A) → map f (reverse xs) ≡ reverse (map f xs)
  map_reverse [] = refl
  map_reverse (x ∷ xs) =
      ap (map f) (reverse-append (x ∷ []) xs) ∙ map-append f (reverse xs) (x ∷ [])
      ∙ ap (λ (l : List B). l ++ f x ∷ []) (map_reverse xs)
      ∙ sym (reverse-append (f x ∷ []) (map f xs))

  -- all were taken, and what was taken was turned round
  pub all_taken : (taken turned : List A) (rest all : List B) → rest ++ reverse (map f taken) ≡ all → length rest ≡ 0 → turned ≡ reverse taken → map f turned ≡ all
  all_taken taken turned [] all e none is = ap (map f) is ∙ map_reverse taken ∙ e
  all_taken taken turned (x ∷ rest) all e none is = absurd (omega arith)

-- what was lent as a whole, and is back
pub written_back : {X : Type 0} (old new : List X) (n : ℕ) → length new ≡ length old → n ≡ length old → take n (new ++ drop (length new) old) ≡ new
written_back old new n same len =
    ap (λ l. take n (new ++ l)) (drop_all (length new) old (omega (arith, same))) ∙ ap (take n) (append-nil new) ∙ take_all n new (omega (arith, same, len))

-- two lists that are related at each place
pub zip_places : {X : Type 0} (R : X → X → Type 0) (xs ys : List X) → length ys ≡ length xs → ((k : ℕ) (d : X) → k < length xs → R (slice_index_or xs k d) (slice_index_or ys k d)) → AllZip R xs ys
zip_places R [] [] len h = tt
zip_places R (x ∷ xs) (y ∷ ys) len h = (h 0 x (omega arith), zip_places R xs ys (omega (arith, len)) (λ k d lt. h (suc k) d (omega (arith, lt))))
zip_places R [] (y ∷ ys) len h = absurd (omega arith)
zip_places R (x ∷ xs) [] len h = absurd (omega arith)

-- the entry to which one of the second list is related
pub zip_get : {X Y : Type 0} (R : X → Y → Type 0) (xs : List X) (ys : List Y) (k : ℕ) (y : Y) → AllZip R xs ys → slice_get ys k ≡ Some y → (x : X) × (slice_get xs k ≡ Some x) × R x y
zip_get R (x ∷ xs) (y ∷ ys) zero z r at = (x, refl, subst (R x) (same_Some y z at) r.0)
zip_get R (x ∷ xs) (y ∷ ys) (suc k) z r at = zip_get R xs ys k z r.1 at
zip_get R [] [] k z r at = absurd (cc at)
zip_get R [] (y ∷ ys) k z r at = absurd r
zip_get R (x ∷ xs) [] k z r at = absurd r

-- a vector whose items were lent
pub zip_lent : {X : Type 0} (R : X → X → Type 0) (old lent new : List X) (n : ℕ) → lent ≡ old → length new ≡ length lent → n ≡ length old
    → ((k : ℕ) (d : X) → k < length lent → R (slice_index_or lent k d) (slice_index_or new k d)) → AllZip R old (take n (new ++ drop (length new) old))
zip_lent R old lent new n is same len h =
    let now : length new ≡ length old = same ∙ ap length is in
    subst (λ l. AllZip R old l) (sym (written_back old new n now len)) (subst (λ l. AllZip R l new) is (zip_places R lent new same h))
