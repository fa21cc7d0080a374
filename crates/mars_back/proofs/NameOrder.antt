-- Numbers of names grow along the nodes, so no two nodes have one.
use Rattle.std.proofs.Common.{◌≡◌, ℕ, zero, suc, ◌<◌, ◌≤◌, ◌+◌, ◌-◌, Bool, true, false, cond, if◌then◌else◌, List, [], ◌∷◌, ◌++◌, Some, None, map, count_by, refl, sym, ap, ◌∙◌, arith, inl, inr}
use Rattle.std.specs.List.{range_with_len}
use Rattle.std.proofs.lemmas.Bool.{cases_order}
use Rattle.std.proofs.lemmas.Option.{same_Some}
use Rattle.std.proofs.lemmas.List.Sums.{sum_by_push, count_by-le-length}
use Rattle.std.proofs.lemmas.List.FromFn.{length-range_with_len, map-range_with_len_more}
use Rattle.mars_tree.specs.Graph.{label_of}
use Rattle.mars_canon.specs.Canon.{Rooted}
use Rattle.mars_print.specs.Text.{is_named, name_of}

map_itself : (xs : List ℕ) → map (λ x. x) xs ≡ xs
map_itself [] = refl
map_itself (x ∷ xs) = ap (λ ys. x ∷ ys) (map_itself xs)

pub range_more : (n : ℕ) → range_with_len 0 (n + 1) ≡ range_with_len 0 n ++ n ∷ []
range_more n = sym (map_itself (range_with_len 0 (n + 1))) ∙ map-range_with_len_more (λ k. k) 0 n n (omega arith) ∙ ap (λ ks. ks ++ n ∷ []) (map_itself (range_with_len 0 n))

module _ (c : Rooted) where
  named_up_to : ℕ → ℕ
  named_up_to n = count_by (is_named c) (range_with_len 0 n)

  one_more : (n : ℕ) → named_up_to (n + 1) ≡ named_up_to n + cond (is_named c n) 1 0
  unfolding named_up_to
  one_more n = ap (count_by (is_named c)) (range_more n) ∙ sum_by_push (λ k. cond (is_named c k) 1 0) (range_with_len 0 n) n

  grows : (n k : ℕ) → named_up_to n ≤ named_up_to (n + k)
  grows n zero = let e : n + 0 ≡ n = omega arith in omega (arith, ap named_up_to e)
  grows n (suc k) = let e : n + suc k ≡ n + k + 1 = omega arith in omega (arith, ap named_up_to e, grows n k, one_more (n + k))

  later : (m n : ℕ) → m < n → is_named c n ≡ true → named_up_to (m + 1) < named_up_to (n + 1)
  later m n lt named =
      let apart : n ≡ (m + 1) + (n - (m + 1)) = omega arith in
      let one : 1 ≤ cond (is_named c n) 1 0 = rw named (omega arith) in
      omega (arith, grows (m + 1) (n - (m + 1)), ap named_up_to apart, one_more n, one)

  number_cases : (b : Bool) (n k : ℕ) → (if b then Some n else None) ≡ Some k → (b ≡ true) × (n ≡ k)
  number_cases true n k e = (refl, same_Some n k e)
  number_cases false n k e = cc

  number_is : (n k : ℕ) → name_of c n ≡ Some k → (is_named c n ≡ true) × (named_up_to (n + 1) ≡ k)
  unfolding name_of named_up_to
  number_is n k e = number_cases (is_named c n) (count_by (is_named c) (range_with_len 0 (n + 1))) k e

  few : (n : ℕ) → named_up_to n ≤ n
  unfolding named_up_to
  few n = omega (arith, count_by-le-length (is_named c) (range_with_len 0 n), length-range_with_len 0 n)

  -- a number is at most that of its node, and one
  pub number_small : (n k : ℕ) → name_of c n ≡ Some k → k ≤ n + 1
  number_small n k e = omega (arith, (number_is n k e).1, few (n + 1))

  -- two nodes with one number are one
  pub one_number : (m n k : ℕ) → name_of c m ≡ Some k → name_of c n ≡ Some k → m ≡ n
  one_number m n k e f =
      let left = number_is m k e in
      let right = number_is n k f in
      elim (cases_order m n) [
        | inl one ↦ one
        | inr other ↦ elim other [
          | inl lt ↦ absurd (omega (arith, later m n lt right.0, left.1, right.1))
          | inr gt ↦ absurd (omega (arith, later n m gt left.0, left.1, right.1))
        ]
      ]

  -- a free leaf has a name
  pub free_named : (n : ℕ) → label_of c.nodes n ≡ None → (k : ℕ) × (name_of c n ≡ Some k)
  unfolding name_of is_named
  free_named n free = (count_by (is_named c) (range_with_len 0 (n + 1)), rw free refl)
