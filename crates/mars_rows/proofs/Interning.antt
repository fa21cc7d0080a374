-- Rows that are added.
use Rattle.std.proofs.Common.{◌≡◌, ◌≢◌, ◌⊎◌, ℕ, zero, suc, ◌<◌, ◌≤◌, ◌+◌, Bool, true, false, cond, nat_eq, List, [], ◌∷◌, ◌++◌, length, map, Option, Some, None, unwrap_or, slice_get, is_none, refl, sym, subst, ap, ◌∙◌, arith, inl, inr, All, IsSome, eq-eqb, ne_eqb}
use Rattle.std.proofs.lemmas.List.{length-map}
use Rattle.std.specs.Option.{option_map}
use Rattle.std.specs.List.{filter_map, cons_option, range_with_len}
use Rattle.std.proofs.lemmas.Bool.{cases_eq}
use Rattle.std.proofs.lemmas.Option.{same_Some, slice_get-map, none-some}
use Rattle.std.proofs.lemmas.List.Elements.{All-head, All-tail, All-append, All-cons, All-nil, All-weaker, All-map}
use Rattle.mars_tree.specs.declared.label.Label.{Label}
use Rattle.mars_tree.specs.Label.{arity_of}
use Rattle.mars_base.proofs.ListFacts.{one-from_gets}
use Rattle.mars_tree.specs.Graph.{Node, IsGraph, IsGround, label_of, kids_of, arity_at, stands, shown_at, at, Same}
use Rattle.mars_tree.proofs.CallerLemmas.{node_in, label_from_stands, stands_from_label, label_in, kid_in, same_from_bisimulation}
use Rattle.mars_rows.specs.Rows.{Row, row_at, HasRow, kids_of_row, label_of_row, shown_at_row, tree_of, IsRowOf}
use Rattle.mars_rows.specs.Finding.{find_row}
use Rattle.mars_rows.specs.Object.{fresh_before, row_number, fresh_row, fresh_rows}
use Rattle.mars_rows.specs.Sound.{AreClosed, IsApart}
use Rattle.mars_rows.specs.TableLaws.{InternMeans}
use Rattle.mars_rows.proofs.RowFacts.{some_of, chosen, number_at, kid_is_row}
use Rattle.mars_rows.proofs.Found.{find_means, option_map_some, counted}

-- an old row is found as before
old_row : (rows more : List Row) (h : ℕ) (row : Row) → row_at rows h ≡ Some row → row_at (rows ++ more) h ≡ Some row
old_row [] more h row e = cc
old_row (r ∷ rows) more h row e = elim (chosen (nat_eq r.number h) (Some r) (row_at rows h) (Some row) e) [
  | inl w ↦ ap (λ b. cond b (Some r) (row_at (rows ++ more) h)) w.0 ∙ w.1
  | inr w ↦ ap (λ b. cond b (Some r) (row_at (rows ++ more) h)) w.0 ∙ old_row rows more h row w.1
]

-- past the old rows the new ones are looked up
new_row : (rows more : List Row) (h next : ℕ) → All (λ row. row.number < next) rows → next ≤ h → row_at (rows ++ more) h ≡ row_at more h
new_row [] more h next below le = refl
new_row (r ∷ rows) more h next below le =
    let lt : r.number < next = All-head (λ row. row.number < next) r rows below in
    let ne : nat_eq r.number h ≡ false = ne_eqb r.number h (λ e. absurd (omega (arith, lt, e))) in
    ap (λ b. cond b (Some r) (row_at (rows ++ more) h)) ne ∙ new_row rows more h next (All-tail (λ row. row.number < next) r rows below) le

-- a number that has a row is an old one's, or a new one's
old_or_new : (rows more : List Row) (h : ℕ) → HasRow (rows ++ more) h → HasRow rows h ⊎ HasRow more h
old_or_new [] more h has = inr has
old_or_new (r ∷ rows) more h has = step (nat_eq r.number h) (row_at (rows ++ more) h) (row_at rows h) has (old_or_new rows more h)
  where
    step : (b : Bool) (o p : Option Row) → IsSome (cond b (Some r) o) → (IsSome o → IsSome p ⊎ HasRow more h) → IsSome (cond b (Some r) p) ⊎ HasRow more h
    step true o p is rest = inl refl
    step false o p is rest = rest is

pub map_get : (f : ℕ → ℕ) (xs : List ℕ) (k y : ℕ) → slice_get (map f xs) k ≡ Some y → (x : ℕ) × (slice_get xs k ≡ Some x) × (f x ≡ y)
map_get f xs k y e = option_map_some f (slice_get xs k) y (sym (slice_get-map f xs k) ∙ e)

pub none_or_some : {A : Type 0} (o : Option A) → (o ≡ None) ⊎ ((x : A) × (o ≡ Some x))
none_or_some None = inl refl
none_or_some (Some x) = inr (x, refl)

-- what is found among the rows of a range comes from one of it
from_range : (f : ℕ → Option Row) (from count h : ℕ) (row : Row) → row_at (filter_map f (range_with_len from count)) h ≡ Some row → (n : ℕ) × (n < from + count) × (f n ≡ Some row)
from_range f from zero h row e = cc
from_range f from (suc count) h row e = elim (none_or_some (f from)) [
  | inl none ↦
      let rest : row_at (filter_map f (range_with_len (from + 1) count)) h ≡ Some row = sym (ap (λ o. row_at (cons_option o (filter_map f (range_with_len (from + 1) count))) h) none) ∙ e in
      let r = from_range f (from + 1) count h row rest in
      (r.0, omega (arith, r.1), r.2)
  | inr some ↦
      let here : cond (nat_eq some.0.number h) (Some some.0) (row_at (filter_map f (range_with_len (from + 1) count)) h) ≡ Some row =
      sym (ap (λ o. row_at (cons_option o (filter_map f (range_with_len (from + 1) count))) h) some.1) ∙ e in
      elim (chosen (nat_eq some.0.number h) (Some some.0) (row_at (filter_map f (range_with_len (from + 1) count)) h) (Some row) here) [
        | inl w ↦ (from, omega arith, some.1 ∙ w.1)
        | inr w ↦ let r = from_range f (from + 1) count h row w.1 in (r.0, omega (arith, r.1), r.2)
      ]
]

-- what holds of each row of a range holds of all
all_from_range : (P : Row → Type 0) (f : ℕ → Option Row) (from count : ℕ) → ((n : ℕ) (row : Row) → n < from + count → f n ≡ Some row → P row) → All P (filter_map f (range_with_len from count))
all_from_range P f from zero each = All-nil P
all_from_range P f from (suc count) each =
    let rest : All P (filter_map f (range_with_len (from + 1) count)) = all_from_range P f (from + 1) count (λ n row lt e. each n row (omega (arith, lt)) e) in
    elim (none_or_some (f from)) [
      | inl none ↦ subst (λ (o : Option Row). All P (cons_option o (filter_map f (range_with_len (from + 1) count)))) (sym none) rest
      | inr some ↦ subst (λ (o : Option Row). All P (cons_option o (filter_map f (range_with_len (from + 1) count)))) (sym some.1)
          (All-cons P some.0 (filter_map f (range_with_len (from + 1) count)) (each from some.0 (omega arith) some.1) rest)
    ]

module _ (rows : List Row) (next : ℕ) (g : List Node) (closed : AreClosed rows) (apart : IsApart rows) (below : All (λ row. row.number < next) rows)
    (g_is : IsGraph g) (ground : IsGround g) (distinct : (i j : ℕ) → i < length g → j < length g → Same g i g j → i ≡ j) where
  -- node `n` as a row
  abbrev as_row : ℕ → Label → Row
  as_row n l = record { number = row_number rows next g n; label = l; kids = map (row_number rows next g) (kids_of g n) }

  fresh_number : (n : ℕ) → find_row rows g n ≡ None → row_number rows next g n ≡ next + fresh_before rows g n
  fresh_number n e = ap (λ o. unwrap_or o (next + fresh_before rows g n)) e

  found_number : (n h : ℕ) → find_row rows g n ≡ Some h → row_number rows next g n ≡ h
  found_number n h e = ap (λ o. unwrap_or o (next + fresh_before rows g n)) e

  fresh_counts : (n : ℕ) → find_row rows g n ≡ None → fresh_before rows g n + 1 ≡ fresh_before rows g (suc n)
  fresh_counts n e = ap (λ (o : Option ℕ). fresh_before rows g n + cond (is_none o) 1 0) (sym e)

  -- fresh numbers rise
  fresh_rises : (m n : ℕ) → find_row rows g m ≡ None → m < n → fresh_before rows g m < fresh_before rows g n
  fresh_rises m zero e lt = absurd (omega arith)
  fresh_rises m (suc n) e lt = elim (cases_eq m n) [
    | inl same ↦
        let a : fresh_before rows g n + 1 ≡ fresh_before rows g (suc n) = fresh_counts n (subst (λ (k : ℕ). find_row rows g k ≡ None) same e) in
        let b : fresh_before rows g m ≡ fresh_before rows g n = ap (fresh_before rows g) same in
        omega (arith, a, b)
    | inr other ↦
        let a : fresh_before rows g m < fresh_before rows g n = fresh_rises m n e (omega arith) in
        omega (arith, a)
  ]

  -- a node is found or is a new row
  fresh_row_is : (n : ℕ) → n < length g → find_row rows g n ≡ None → (l : Label) × (label_of g n ≡ Some l) × (fresh_row rows next g n ≡ Some (as_row n l))
  fresh_row_is n n_in e = elim (none_or_some (label_of g n)) [
    | inl none ↦ absurd (label_in g n ground n_in none)
    | inr some ↦ (
      some.0,
      some.1,
      ap (λ (o : Option ℕ). cond (is_none o) (option_map (as_row n) (label_of g n)) None) e ∙ ap (option_map (as_row n)) some.1,
    )
  ]

  found_no_row : (n h : ℕ) → find_row rows g n ≡ Some h → fresh_row rows next g n ≡ None
  found_no_row n h e = ap (λ (o : Option ℕ). cond (is_none o) (option_map (as_row n) (label_of g n)) None) e

  -- the row of a node without a row is found under its number
  fresh_found : (from count n : ℕ) (l : Label) → from + count ≤ length g → from ≤ n → n < from + count → find_row rows g n ≡ None → label_of g n ≡ Some l →
      row_at (filter_map (fresh_row rows next g) (range_with_len from count)) (row_number rows next g n) ≡ Some (as_row n l)
  fresh_found from zero n l fits le lt e label = absurd (omega arith)
  fresh_found from (suc count) n l fits le lt e label =
      let rest : List Row = filter_map (fresh_row rows next g) (range_with_len (from + 1) count) in
      elim (none_or_some (find_row rows g from)) [
        | inl none ↦
            let r = fresh_row_is from (omega arith) none in
            ap (λ o. row_at (cons_option o rest) (row_number rows next g n)) r.2 ∙ elim (cases_eq from n) [
              | inl same ↦
                  let a : as_row from r.0 ≡ as_row n l = ap (λ k. as_row k r.0) same ∙ ap (as_row n) (same_Some r.0 l (sym r.1 ∙ ap (label_of g) same ∙ label)) in
                  let b : nat_eq (row_number rows next g from) (row_number rows next g n) ≡ true = eq-eqb (row_number rows next g from) (row_number rows next g n) (ap (row_number rows next g) same) in
                  ap (λ c. cond c (Some (as_row from r.0)) (row_at rest (row_number rows next g n))) b ∙ ap (λ row. Some row) a
              | inr other ↦
                  let rises : fresh_before rows g from < fresh_before rows g n = fresh_rises from n none (omega arith) in
                  let ne : nat_eq (row_number rows next g from) (row_number rows next g n) ≡ false = ne_eqb (row_number rows next g from) (row_number rows next g n) (λ same. absurd (omega (arith, rises, same, fresh_number from none, fresh_number n e))) in
                  ap (λ c. cond c (Some (as_row from r.0)) (row_at rest (row_number rows next g n))) ne ∙ fresh_found (from + 1) count n l (omega arith) (omega arith) (omega arith) e label
            ]
        | inr some ↦
            let differ : from ≢ n = λ same. none-some some.0 (sym e ∙ ap (find_row rows g) (sym same) ∙ some.1) in
            ap (λ o. row_at (cons_option o rest) (row_number rows next g n)) (found_no_row from some.0 some.1) ∙ fresh_found (from + 1) count n l (omega arith) (omega (arith, differ)) (omega arith) e label
      ]

  new_found : (n : ℕ) → n < length g → find_row rows g n ≡ None → (l : Label) × (label_of g n ≡ Some l) × (row_at (rows ++ fresh_rows rows next g) (row_number rows next g n) ≡ Some (as_row n l))
  new_found n n_in e =
      let r = fresh_row_is n n_in e in
      let past : next ≤ row_number rows next g n = omega (arith, fresh_number n e) in
      (r.0, r.1, new_row rows (fresh_rows rows next g) (row_number rows next g n) next below past ∙ fresh_found 0 (length g) n r.0 (omega arith) (omega arith) (omega arith) e r.1)

  -- an old row has its label and its kids
  pub old_has : (h : ℕ) → HasRow rows h → HasRow (rows ++ fresh_rows rows next g) h × (label_of_row (rows ++ fresh_rows rows next g) h ≡ label_of_row rows h) × (kids_of_row (rows ++ fresh_rows rows next g) h ≡ kids_of_row rows h)
  old_has h has =
      let row = some_of (row_at rows h) has in
      let e : row_at (rows ++ fresh_rows rows next g) h ≡ row_at rows h = old_row rows (fresh_rows rows next g) h row.0 row.1 ∙ sym row.1 in
      (subst (λ (o : Option Row). IsSome o) (sym e) has, ap (option_map (λ (r : Row). r.label)) e, ap (λ o. unwrap_or (option_map (λ (r : Row). r.kids) o) []) e)

  -- its tree stays
  old_tree : (h : ℕ) → HasRow rows h → (path : List ℕ) → tree_of (rows ++ fresh_rows rows next g) h path ≡ tree_of rows h path
  old_tree h has =
      same_from_bisimulation (kids_of_row (rows ++ fresh_rows rows next g)) (shown_at_row (rows ++ fresh_rows rows next g)) (kids_of_row rows) (shown_at_row rows)
      (λ i j. HasRow rows i × (i ≡ j)) (record {
        shown = λ i j r. ap (λ l. stands l i) (old_has i r.0).1 ∙ ap (shown_at_row rows) r.1;
        count = λ i j r. ap length (old_has i r.0).2 ∙ ap (λ n. length (kids_of_row rows n)) r.1;
        follows = λ i j k x y r left right.
            let left' : slice_get (kids_of_row rows i) k ≡ Some x = ap (λ xs. slice_get xs k) (sym (old_has i r.0).2) ∙ left in
            (kid_is_row rows i k x closed r.0 left', same_Some x y (sym left' ∙ ap (λ n. slice_get (kids_of_row rows n) k) r.1 ∙ right));
      }) h h (has, refl)

  -- the number of a node that is found, and its label and kids there
  found_is : (n h : ℕ) → n < length g → find_row rows g n ≡ Some h → HasRow rows h × IsRowOf rows h g n
  found_is n h n_in e = (find_means rows g n h closed apart g_is ground n_in).0 e

  found_kids : (n h : ℕ) → n < length g → find_row rows g n ≡ Some h → (label_of_row rows h ≡ label_of g n) × (kids_of_row rows h ≡ map (row_number rows next g) (kids_of g n))
  found_kids n h n_in e =
      let is = found_is n h n_in e in
      let shown : shown_at_row rows h ≡ shown_at g n = same_Some (shown_at_row rows h) (shown_at g n) (is.1 []) in (
        label_from_stands (label_of_row rows h) (label_of g n) h n shown,
        one-from_gets (kids_of_row rows h) (map (row_number rows next g) (kids_of g n)) (counted rows g closed g_is ground h n is.0 n_in shown ∙ sym (length-map (kids_of g n) (row_number rows next g)))
            (λ k x z left right.
            let y = map_get (row_number rows next g) (kids_of g n) k z right in
            let y_in : y.0 < length g = kid_in g n k y.0 g_is n_in y.1 in
            let tree : IsRowOf rows x g y.0 = λ path.
            let a : tree_of rows h (k ∷ path) ≡ tree_of rows x path = rw left refl in
            let b : at g n (k ∷ path) ≡ at g y.0 path = rw y.1 refl in
            sym a ∙ is.1 (k ∷ path) ∙ b in
            let found : find_row rows g y.0 ≡ Some x = (find_means rows g y.0 x closed apart g_is ground y_in).1 (kid_is_row rows h k x closed is.0 left, tree) in
            sym (found_number y.0 x found) ∙ y.2),
      )

  -- each node has a row under its number, with its label and the numbers of its kids
  pub has_number : (n : ℕ) → n < length g → HasRow (rows ++ fresh_rows rows next g) (row_number rows next g n) × (label_of_row (rows ++ fresh_rows rows next g) (row_number rows next g n) ≡ label_of g n)
      × (kids_of_row (rows ++ fresh_rows rows next g) (row_number rows next g n) ≡ map (row_number rows next g) (kids_of g n))
  has_number n n_in = elim (none_or_some (find_row rows g n)) [
    | inl none ↦
        let r = new_found n n_in none in
        (subst (λ (o : Option Row). IsSome o) (sym r.2) refl, ap (option_map (λ (row : Row). row.label)) r.2 ∙ sym r.1, ap (λ o. unwrap_or (option_map (λ (row : Row). row.kids) o) []) r.2)
    | inr some ↦
        let e : some.0 ≡ row_number rows next g n = sym (found_number n some.0 some.1) in
        let old = old_has some.0 (found_is n some.0 n_in some.1).0 in
        let kids = found_kids n some.0 n_in some.1 in
        subst (λ (h : ℕ). HasRow (rows ++ fresh_rows rows next g) h × (label_of_row (rows ++ fresh_rows rows next g) h ≡ label_of g n)
        × (kids_of_row (rows ++ fresh_rows rows next g) h ≡ map (row_number rows next g) (kids_of g n))) e (old.0, old.1 ∙ kids.0, old.2 ∙ kids.1)
  ]

  -- the tree of its number is that of the node
  number_tree : (n : ℕ) → n < length g → IsRowOf (rows ++ fresh_rows rows next g) (row_number rows next g n) g n
  number_tree n n_in =
      same_from_bisimulation (kids_of_row (rows ++ fresh_rows rows next g)) (shown_at_row (rows ++ fresh_rows rows next g)) (kids_of g) (shown_at g)
      (λ i j. (j < length g) × (i ≡ row_number rows next g j)) (record {
        shown = λ i j r.
            let is = has_number j r.0 in
            let label : label_of_row (rows ++ fresh_rows rows next g) i ≡ label_of g j = ap (label_of_row (rows ++ fresh_rows rows next g)) r.1 ∙ is.1 in
            sym (stands_from_label (label_of g j) (label_of_row (rows ++ fresh_rows rows next g) i) j i (sym label) (label_in g j ground r.0));
        count = λ i j r. ap (λ h. length (kids_of_row (rows ++ fresh_rows rows next g) h)) r.1 ∙ ap length (has_number j r.0).2 ∙ length-map (kids_of g j) (row_number rows next g);
        follows = λ i j k x y r left right.
            let z = map_get (row_number rows next g) (kids_of g j) k x (ap (λ xs. slice_get xs k) (sym (has_number j r.0).2) ∙ ap (λ h. slice_get (kids_of_row (rows ++ fresh_rows rows next g) h) k) (sym r.1) ∙ left) in
            (kid_in g j k y g_is r.0 right, sym z.2 ∙ ap (row_number rows next g) (same_Some z.0 y (sym z.1 ∙ right)));
      }) (row_number rows next g n) n (n_in, refl)

  -- a row is an old one, or that of a node without one
  pub old_or_node : (h : ℕ) → HasRow (rows ++ fresh_rows rows next g) h → HasRow rows h ⊎ ((n : ℕ) × (n < length g) × (find_row rows g n ≡ None) × (row_number rows next g n ≡ h))
  old_or_node h has = elim (old_or_new rows (fresh_rows rows next g) h has) [
    | inl old ↦ inl old
    | inr new ↦
        let row = some_of (row_at (fresh_rows rows next g) h) new in
        let r = from_range (fresh_row rows next g) 0 (length g) h row.0 row.1 in
        let n_in : r.0 < length g = omega (arith, r.1) in
        elim (none_or_some (find_row rows g r.0)) [
          | inl none ↦
              let is = fresh_row_is r.0 n_in none in
              let e : as_row r.0 is.0 ≡ row.0 = same_Some (as_row r.0 is.0) row.0 (sym is.2 ∙ r.2) in
              inr (r.0, n_in, none, ap (λ (x : Row). x.number) e ∙ number_at (fresh_rows rows next g) h row.0 row.1)
          | inr some ↦ absurd (none-some row.0 (sym (found_no_row r.0 some.0 some.1) ∙ r.2))
        ]
  ]

  new_apart : IsApart (rows ++ fresh_rows rows next g)
  new_apart a b a_has b_has same = elim (old_or_node a a_has) [
    | inl a_old ↦ elim (old_or_node b b_has) [
      | inl b_old ↦ apart a b a_old b_old (λ path. sym (old_tree a a_old path) ∙ same path ∙ old_tree b b_old path)
      | inr w ↦ absurd (old_and_new a w.0 a_old w.1 w.2 (λ path. sym (old_tree a a_old path) ∙ same path ∙ ap (λ h. tree_of (rows ++ fresh_rows rows next g) h path) (sym w.3) ∙ number_tree w.0 w.1 path))
    ]
    | inr v ↦ elim (old_or_node b b_has) [
      | inl b_old ↦ absurd (old_and_new b v.0 b_old v.1 v.2 (λ path. sym (old_tree b b_old path) ∙ sym (same path) ∙ ap (λ h. tree_of (rows ++ fresh_rows rows next g) h path) (sym v.3) ∙ number_tree v.0 v.1 path))
      | inr w ↦
          let one : v.0 ≡ w.0 = distinct v.0 w.0 v.1 w.1 (λ path.
          sym (number_tree v.0 v.1 path) ∙ ap (λ h. tree_of (rows ++ fresh_rows rows next g) h path) v.3 ∙ same path ∙ ap (λ h. tree_of (rows ++ fresh_rows rows next g) h path) (sym w.3) ∙ number_tree w.0 w.1 path) in
          sym v.3 ∙ ap (row_number rows next g) one ∙ w.3
    ]
  ]
    where
      old_and_new : (h n : ℕ) → HasRow rows h → n < length g → find_row rows g n ≡ None → IsRowOf rows h g n → ⊥
      old_and_new h n old n_in none tree = none-some h (sym none ∙ (find_means rows g n h closed apart g_is ground n_in).1 (old, tree))

  from_fresh : (n : ℕ) (row : Row) → n < length g → fresh_row rows next g n ≡ Some row → (l : Label) × (label_of g n ≡ Some l) × (as_row n l ≡ row)
  from_fresh n row n_in e = elim (none_or_some (find_row rows g n)) [
    | inl none ↦ let is = fresh_row_is n n_in none in (is.0, is.1, same_Some (as_row n is.0) row (sym is.2 ∙ e))
    | inr some ↦ absurd (none-some row (sym (found_no_row n some.0 some.1) ∙ e))
  ]

  new_closed : AreClosed (rows ++ fresh_rows rows next g)
  new_closed = record {
    count = All-append (λ row. length row.kids ≡ arity_of row.label) rows (fresh_rows rows next g) closed.count
        (all_from_range (λ row. length row.kids ≡ arity_of row.label) (fresh_row rows next g) 0 (length g) (λ n row lt e.
        let r = from_fresh n row (omega (arith, lt)) e in
        subst (λ (x : Row). length x.kids ≡ arity_of x.label) r.2 (length-map (kids_of g n) (row_number rows next g) ∙ (node_in g n g_is (omega (arith, lt))).kids ∙ ap arity_at r.1)));
    kids = All-append (λ row. All (HasRow (rows ++ fresh_rows rows next g)) row.kids) rows (fresh_rows rows next g)
        (All-weaker (λ row. All (HasRow rows) row.kids) (λ row. All (HasRow (rows ++ fresh_rows rows next g)) row.kids)
        (λ row all. All-weaker (HasRow rows) (HasRow (rows ++ fresh_rows rows next g)) (λ h has. (old_has h has).0) row.kids all) rows closed.kids)
        (all_from_range (λ row. All (HasRow (rows ++ fresh_rows rows next g)) row.kids) (fresh_row rows next g) 0 (length g) (λ n row lt e.
        let r = from_fresh n row (omega (arith, lt)) e in
        subst (λ (x : Row). All (HasRow (rows ++ fresh_rows rows next g)) x.kids) r.2
        (All-map (HasRow (rows ++ fresh_rows rows next g)) (row_number rows next g) (kids_of g n)
        (All-weaker (λ y. y < length g) (λ y. HasRow (rows ++ fresh_rows rows next g) (row_number rows next g y)) (λ y y_in. (has_number y y_in).0) (kids_of g n) (node_in g n g_is (omega (arith, lt))).in_range))));
  }

pub intern_means : InternMeans
intern_means rows next g closed apart below g_is ground distinct = record {
  closed = new_closed rows next g closed apart below g_is ground distinct;
  apart = new_apart rows next g closed apart below g_is ground distinct;
  kept = old_tree rows next g closed apart below g_is ground distinct;
  trees = λ n n_in. ((has_number rows next g closed apart below g_is ground distinct n n_in).0, number_tree rows next g closed apart below g_is ground distinct n n_in);
}
