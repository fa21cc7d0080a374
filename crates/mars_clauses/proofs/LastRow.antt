-- The innermost open name or tuple, which the code has last, and what it is after an argument more.
use Rattle.std.proofs.Common.{◌≡◌, ◌<◌, ◌-◌, ◌+◌, ℕ, List, [], ◌∷◌, ◌++◌, length, take, reverse, slice_index_or, slice_set, ap, sym, ◌∙◌, arith}
use Rattle.std.proofs.lemmas.List.{take_all, take_more, take_more_set, reverse-append, length-set}

module _ {X : Type 0} where
  pub last-row : (xs : List X) (n : ℕ) (x : X) → n ≡ length xs → 0 < n → x ≡ slice_index_or xs (n - 1) x → reverse xs ≡ x ∷ reverse (take (n - 1) xs)
  last-row xs n x e more is =
      let whole : xs ≡ take (n - 1 + 1) xs = sym (take_all (n - 1 + 1) xs (omega (arith, e, more))) in
      let cut : take (n - 1 + 1) xs ≡ take (n - 1) xs ++ x ∷ [] = take_more xs (n - 1) x (omega (arith, e, more)) ∙ ap (λ (y : X). take (n - 1) xs ++ y ∷ []) (sym is) in
      ap (λ (l : List X). reverse l) (whole ∙ cut) ∙ reverse-append (take (n - 1) xs) (x ∷ [])

  pub last-row-set : (xs : List X) (n : ℕ) (y : X) → n ≡ length xs → 0 < n → reverse (slice_set xs (n - 1) y) ≡ y ∷ reverse (take (n - 1) xs)
  last-row-set xs n y e more =
      let whole : slice_set xs (n - 1) y ≡ take (n - 1 + 1) (slice_set xs (n - 1) y) = sym (take_all (n - 1 + 1) (slice_set xs (n - 1) y) (omega (arith, length-set xs (n - 1) y, e, more))) in
      let cut : take (n - 1 + 1) (slice_set xs (n - 1) y) ≡ take (n - 1) xs ++ y ∷ [] = take_more_set xs (n - 1) y (omega (arith, e, more)) in
      ap (λ (l : List X). reverse l) (whole ∙ cut) ∙ reverse-append (take (n - 1) xs) (y ∷ [])
