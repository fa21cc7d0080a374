-- Fresh nodes as rows.
use Rattle.std.proofs.Common.{◌≡◌, ℕ, zero, suc, ◌<◌, ◌≤◌, ◌+◌, Bool, true, false, cond, is_none, unwrap_or, List, [], ◌∷◌, ◌++◌, length, map, filter, Option, Some, None, slice_get, refl, sym, ap, ◌∙◌, arith, inl, inr, All, length-append, append-nil}
use Rattle.std.specs.List.{range_with_len, filter_map, cons_option}
use Rattle.std.proofs.lemmas.Option.{same_Some}
use Rattle.std.proofs.lemmas.List.{map-append}
use Rattle.std.proofs.lemmas.List.Elements.{All-tail, All-head, All-cons, filter-append}
use Rattle.std.proofs.lemmas.Bool.{cases_eq}
use Rattle.std.proofs.lemmas.List.FromFn.{get_or-map-range_with_len, length-range_with_len}
use Rattle.mars_tree.specs.Graph.{Node}
use Rattle.mars_rows.specs.Finding.{find_row}
use Rattle.mars_rows.specs.FreshInside.{fresh_nodes, at_places}
use Rattle.mars_rows.specs.Object.{fresh_before, row_number, fresh_row}
use Rattle.mars_tree.specs.Renumbered.{renumbered_node, renumbered}
use Rattle.mars_rows.specs.Rows.{Row}
use Rattle.mars_rows.specs.RowsInside.{as_row, rows_from}
use Rattle.mars_rows.proofs.Interning.{none_or_some}
use Rattle.mars_base.proofs.ListFacts.{All-from_gets}

-- one more number
pub range_more : (a n : ℕ) → range_with_len a (n + 1) ≡ range_with_len a n ++ (a + n) ∷ []
range_more a zero = let e : a ≡ a + 0 = omega arith in ap (λ x. x ∷ []) e
range_more a (suc n) =
    let count : suc n + 1 ≡ suc (n + 1) = omega arith in
    let last : a + 1 + n ≡ a + suc n = omega arith in
    ap (range_with_len a) count ∙ ap (λ xs. a ∷ xs) (range_more (a + 1) n) ∙ ap (λ x. a ∷ (range_with_len (a + 1) n ++ x ∷ [])) last

module _ (rows : List Row) (next : ℕ) (g : List Node) where
  is_fresh : ℕ → Bool
  is_fresh n = is_none (find_row rows g n)

  fresh_more : (n : ℕ) → fresh_nodes rows g (n + 1) ≡ fresh_nodes rows g n ++ filter (λ m. is_none (find_row rows g m)) (n ∷ [])
  fresh_more n =
      let zero_n : 0 + n ≡ n = omega arith in
      ap (filter (λ m. is_none (find_row rows g m))) (range_more 0 n ∙ ap (λ x. range_with_len 0 n ++ x ∷ []) zero_n) ∙ filter-append (λ m. is_none (find_row rows g m)) (range_with_len 0 n) (n ∷ [])

  pub fresh_none : (n : ℕ) → find_row rows g n ≡ None → fresh_nodes rows g (n + 1) ≡ fresh_nodes rows g n ++ n ∷ []
  fresh_none n e = fresh_more n ∙ ap (λ (o : Option ℕ). fresh_nodes rows g n ++ cond (is_none o) (n ∷ []) []) e

  pub fresh_some : (n h : ℕ) → find_row rows g n ≡ Some h → fresh_nodes rows g (n + 1) ≡ fresh_nodes rows g n
  fresh_some n h e = fresh_more n ∙ ap (λ (o : Option ℕ). fresh_nodes rows g n ++ cond (is_none o) (n ∷ []) []) e ∙ append-nil (fresh_nodes rows g n)

  before_none : (n : ℕ) → find_row rows g n ≡ None → fresh_before rows g (n + 1) ≡ fresh_before rows g n + 1
  before_none n e = let s : n + 1 ≡ suc n = omega arith in ap (fresh_before rows g) s ∙ ap (λ (o : Option ℕ). fresh_before rows g n + cond (is_none o) 1 0) e

  before_some : (n h : ℕ) → find_row rows g n ≡ Some h → fresh_before rows g (n + 1) ≡ fresh_before rows g n
  before_some n h e =
      let s : n + 1 ≡ suc n = omega arith in
      let z : fresh_before rows g n + 0 ≡ fresh_before rows g n = omega arith in
      ap (fresh_before rows g) s ∙ ap (λ (o : Option ℕ). fresh_before rows g n + cond (is_none o) 1 0) e ∙ z

  -- as many nodes are fresh as are counted
  pub length-fresh : (n : ℕ) → length (fresh_nodes rows g n) ≡ fresh_before rows g n
  length-fresh zero = refl
  length-fresh (suc n) =
      let s : suc n ≡ n + 1 = omega arith in
      ap (λ k. length (fresh_nodes rows g k)) s ∙ elim (none_or_some (find_row rows g n)) [
        | inl e ↦ omega (arith, ap length (fresh_none n e), length-append (fresh_nodes rows g n) (n ∷ []), length-fresh n, before_none n e, ap (fresh_before rows g) s)
        | inr e ↦ omega (arith, ap length (fresh_some n e.0 e.1), length-fresh n, before_some n e.0 e.1, ap (fresh_before rows g) s)
      ]

  before_rises : (m n : ℕ) → m ≤ n → fresh_before rows g m ≤ fresh_before rows g n
  before_rises m zero le = let e : m ≡ 0 = omega arith in omega (arith, ap (fresh_before rows g) e)
  before_rises m (suc n) le = elim (cases_eq m (suc n)) [
    | inl same ↦ omega (arith, ap (fresh_before rows g) same)
    | inr other ↦ let a : fresh_before rows g m ≤ fresh_before rows g n = before_rises m n (omega (arith, le, other)) in omega (arith, a)
  ]

  -- the nodes that are fresh, under their numbers, are the fresh rows
  pub rows_fresh : (a count b : ℕ) → b ≡ next + fresh_before rows g a → rows_from b (renumbered g (row_number rows next g) (filter (λ m. is_none (find_row rows g m)) (range_with_len a count))) ≡ filter_map (fresh_row rows next g) (range_with_len a count)
  rows_fresh a zero b e = refl
  rows_fresh a (suc count) b e = elim (none_or_some (find_row rows g a)) [
    | inl none ↦
        let number : b ≡ row_number rows next g a = e ∙ ap (λ (o : Option ℕ). unwrap_or o (next + fresh_before rows g a)) (sym none) in
        let here : as_row b (renumbered_node g (row_number rows next g) a) ≡ fresh_row rows next g a =
        ap (λ n. as_row n (renumbered_node g (row_number rows next g) a)) number
        ∙ ap (λ (o : Option ℕ). cond (is_none o) (as_row (row_number rows next g a) (renumbered_node g (row_number rows next g) a)) None) (sym none) in
        let kept : filter (λ m. is_none (find_row rows g m)) (range_with_len a (suc count)) ≡ a ∷ filter (λ m. is_none (find_row rows g m)) (range_with_len (a + 1) count) =
        ap (λ (o : Option ℕ). cond (is_none o) (a ∷ filter (λ m. is_none (find_row rows g m)) (range_with_len (a + 1) count)) (filter (λ m. is_none (find_row rows g m)) (range_with_len (a + 1) count))) none in
        ap (λ ns. rows_from b (renumbered g (row_number rows next g) ns)) kept
        ∙ ap (λ (o : Option Row). cons_option o (rows_from (b + 1) (renumbered g (row_number rows next g) (filter (λ m. is_none (find_row rows g m)) (range_with_len (a + 1) count))))) here
        ∙ ap (cons_option (fresh_row rows next g a)) (rows_fresh (a + 1) count (b + 1) (omega (arith, e, before_none a none)))
    | inr some ↦
        let gone : ◌≡◌ {A = Option Row} None (fresh_row rows next g a) =
        ap (λ (o : Option ℕ). cond (is_none o) (as_row (row_number rows next g a) (renumbered_node g (row_number rows next g) a)) None) (sym some.1) in
        let kept : filter (λ m. is_none (find_row rows g m)) (range_with_len a (suc count)) ≡ filter (λ m. is_none (find_row rows g m)) (range_with_len (a + 1) count) =
        ap (λ (o : Option ℕ). cond (is_none o) (a ∷ filter (λ m. is_none (find_row rows g m)) (range_with_len (a + 1) count)) (filter (λ m. is_none (find_row rows g m)) (range_with_len (a + 1) count))) some.1 in
        ap (λ ns. rows_from b (renumbered g (row_number rows next g) ns)) kept
        ∙ rows_fresh (a + 1) count b (omega (arith, e, before_some a some.0 some.1))
        ∙ ap (λ (o : Option Row). cons_option o (filter_map (fresh_row rows next g) (range_with_len (a + 1) count))) gone
  ]

  pub numbers_more : (n : ℕ) → map (row_number rows next g) (range_with_len 0 (n + 1)) ≡ map (row_number rows next g) (range_with_len 0 n) ++ row_number rows next g n ∷ []
  numbers_more n =
      let zero_n : 0 + n ≡ n = omega arith in
      ap (map (row_number rows next g)) (range_more 0 n ∙ ap (λ x. range_with_len 0 n ++ x ∷ []) zero_n) ∙ map-append (row_number rows next g) (range_with_len 0 n) (n ∷ [])

  -- a node that is found, and one that isn't
  pub number_some : (n h : ℕ) → find_row rows g n ≡ Some h → row_number rows next g n ≡ h
  number_some n h e = ap (λ (o : Option ℕ). unwrap_or o (next + fresh_before rows g n)) e

  pub number_none : (n : ℕ) → find_row rows g n ≡ None → row_number rows next g n ≡ next + fresh_before rows g n
  number_none n e = ap (λ (o : Option ℕ). unwrap_or o (next + fresh_before rows g n)) e

  -- a number is that of an old row or of a fresh one
  pub number_below : (n count : ℕ) → n < count → ((h : ℕ) → find_row rows g n ≡ Some h → h < next) → row_number rows next g n < next + fresh_before rows g count
  number_below n count lt old = elim (none_or_some (find_row rows g n)) [
    | inl e ↦
        let a : fresh_before rows g (n + 1) ≤ fresh_before rows g count = before_rises (n + 1) count (omega (arith, lt)) in
        omega (arith, a, before_none n e, number_none n e)
    | inr e ↦ let a : e.0 < next = old e.0 e.1 in omega (arith, a, number_some n e.0 e.1)
  ]

-- the numbers of a vector
pub at_map : (f : ℕ → ℕ) (count n : ℕ) → n < count → at_places (map f (range_with_len 0 count)) n ≡ f n
at_map f count n lt = get_or-map-range_with_len f 0 count n n 0 lt (omega arith)

-- the numbers of a range
pub in_range_of : (a count k x : ℕ) → slice_get (range_with_len a count) k ≡ Some x → (a ≤ x) × (x < a + count)
in_range_of a zero k x e = cc
in_range_of a (suc count) zero x e = let s : a ≡ x = same_Some a x e in (omega (arith, s), omega (arith, s))
in_range_of a (suc count) (suc k) x e = let r = in_range_of (a + 1) count k x e in (omega (arith, r.0), omega (arith, r.1))

pub range_below : (count : ℕ) → All (λ n. n < count) (range_with_len 0 count)
range_below count = All-from_gets (λ n. n < count) (range_with_len 0 count) (λ k n e. omega (arith, in_range_of 0 count k n e))

-- an element that a filter keeps was there
pub filter_in : (q : ℕ → Bool) (xs : List ℕ) (P : ℕ → Type 0) → All P xs → All P (filter q xs)
filter_in q [] P all = all
filter_in q (x ∷ xs) P all = either (q x) (filter_in q xs P (All-tail P x xs all))
  where
    either : (b : Bool) → All P (filter q xs) → All P (cond b (x ∷ filter q xs) (filter q xs))
    either true rest = All-cons P x (filter q xs) (All-head P x xs all) rest
    either false rest = rest

pub fresh_in_range : (rows : List Row) (g : List Node) (count : ℕ) → All (λ n. n < count) (fresh_nodes rows g count)
fresh_in_range rows g count = filter_in (λ n. is_none (find_row rows g n)) (range_with_len 0 count) (λ n. n < count) (range_below count)

pub length-range : (count : ℕ) → length (range_with_len 0 count) ≡ count
length-range count = length-range_with_len 0 count
