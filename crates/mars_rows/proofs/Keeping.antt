-- Nodes that walks from pins meet, as rows of their own.
use Rattle.std.proofs.Common.{◌≡◌, ℕ, zero, suc, ◌<◌, ◌≤◌, ◌+◌, Bool, true, false, cond, nat_eq, List, [], ◌∷◌, ◌++◌, length, map, filter, Option, Some, None, slice_get, get_or, refl, sym, ap, ◌∙◌, arith, inl, inr, append-nil}
use Rattle.std.specs.Option.{option_map}
use Rattle.std.specs.List.{cons_option, filter_map, list_any, range_with_len}
use Rattle.std.proofs.lemmas.Bool.{false≢true, cases_eq}
use Rattle.std.proofs.lemmas.Option.{same_Some}
use Rattle.mars_tree.specs.declared.label.Label.{Label}
use Rattle.mars_tree.specs.Graph.{Node, label_of, kids_of, free_leaf}
use Rattle.mars_tree.specs.Renumbered.{renumbered_node, renumbered}
use Rattle.mars_rows.specs.Rows.{Row}
use Rattle.mars_rows.specs.RowsInside.{as_row, rows_from, rows_of}
use Rattle.mars_rows.specs.StockInside.{under}
use Rattle.std.proofs.lemmas.List.Elements.{filter-append}
use Rattle.mars_reach.specs.Order.{with_number}
use Rattle.mars_rows.proofs.FreshRows.{in_range_of, range_more}
use Rattle.mars_rows.proofs.Stored.{stored_number}
use Rattle.mars_rows.proofs.Swept.{Has, any_is}

pub same_bool : (a b : Bool) → (a ≡ true → b ≡ true) → (b ≡ true → a ≡ true) → a ≡ b
same_bool true b f h = sym (f refl)
same_bool false true f h = h refl
same_bool false false f h = refl

-- what passes is kept
pub kept_by : (q : ℕ → Bool) (xs : List ℕ) (x : ℕ) → Has xs x → q x ≡ true → Has (filter q xs) x
kept_by q [] x (k, e) t = cc
kept_by q (y ∷ xs) x (zero, e) t =
    let here : q y ≡ true = ap q (same_Some y x e) ∙ t in
    (0, ap (λ b. slice_get (cond b (y ∷ filter q xs) (filter q xs)) 0) here ∙ e)
kept_by q (y ∷ xs) x (suc k, e) t = later (q y) (kept_by q xs x (k, e) t)
  where
    later : (b : Bool) → Has (filter q xs) x → Has (cond b (y ∷ filter q xs) (filter q xs)) x
    later true h = (suc h.0, h.1)
    later false h = h

-- what is kept was there and passes
pub was_kept : (q : ℕ → Bool) (xs : List ℕ) (x : ℕ) → Has (filter q xs) x → Has xs x × (q x ≡ true)
was_kept q [] x (k, e) = cc
was_kept q (y ∷ xs) x h = either (q y) refl h (was_kept q xs x)
  where
    either : (b : Bool) → q y ≡ b → Has (cond b (y ∷ filter q xs) (filter q xs)) x → (Has (filter q xs) x → Has xs x × (q x ≡ true)) → Has (y ∷ xs) x × (q x ≡ true)
    either true t (zero, e) rest = ((0, e), ap q (sym (same_Some y x e)) ∙ t)
    either true t (suc k, e) rest = let r = rest (k, e) in ((suc r.0.0, r.0.1), r.1)
    either false t h rest = let r = rest h in ((suc r.0.0, r.0.1), r.1)

-- each number of a range is there
pub range_has : (a count n : ℕ) → a ≤ n → n < a + count → Has (range_with_len a count) n
range_has a zero n le lt = absurd (omega arith)
range_has a (suc count) n le lt = elim (cases_eq a n) [
  | inl same ↦ (0, ap (λ x. Some x) same)
  | inr other ↦ let r = range_has (a + 1) count n (omega (arith, le, other)) (omega (arith, lt)) in (suc r.0, r.1)
]

-- numbers that are kept of a range rise
pub kept_rise : (q : ℕ → Bool) (a count i j x y : ℕ) → i < j → slice_get (filter q (range_with_len a count)) i ≡ Some x → slice_get (filter q (range_with_len a count)) j ≡ Some y → x < y
kept_rise q a zero i j x y lt left right = cc
kept_rise q a (suc count) i j x y lt left right = either (q a) i j lt left right (kept_rise q (a + 1) count)
  where
    either : (b : Bool) (i j : ℕ) → i < j → slice_get (cond b (a ∷ filter q (range_with_len (a + 1) count)) (filter q (range_with_len (a + 1) count))) i ≡ Some x →
        slice_get (cond b (a ∷ filter q (range_with_len (a + 1) count)) (filter q (range_with_len (a + 1) count))) j ≡ Some y →
        ((i j x y : ℕ) → i < j → slice_get (filter q (range_with_len (a + 1) count)) i ≡ Some x → slice_get (filter q (range_with_len (a + 1) count)) j ≡ Some y → x < y) → x < y
    either false i j lt left right ih = ih i j x y lt left right
    either true zero zero lt left right ih = absurd (omega (arith, lt))
    either true (suc i) zero lt left right ih = absurd (omega (arith, lt))
    either true (suc i) (suc j) lt left right ih = ih i j x y (omega (arith, lt)) left right
    either true zero (suc j) lt left right ih =
        let first : a ≡ x = same_Some a x left in
        let was = (was_kept q (range_with_len (a + 1) count) y (j, right)).0 in
        let bound = in_range_of (a + 1) count was.0 y was.1 in
        omega (arith, first, bound.0)

-- a filter of what is made of a list
filter-made : {A B C : Type 0} (u : B → C) (r : A → Option B) (p : C → Bool) (q : A → Bool) (xs : List A) → ((k : ℕ) (x : A) (y : B) → slice_get xs k ≡ Some x → r x ≡ Some y → p (u y) ≡ q x) →
    filter p (map u (filter_map r xs)) ≡ filter_map (λ x. option_map u (r x)) (filter q xs)
filter-made u r p q [] tests = refl
filter-made {B = B} {C = C} u r p q (x ∷ xs) tests = either (r x) (q x) refl refl (filter-made u r p q xs (λ k. tests (suc k)))
  where
    either : (o : Option B) (b : Bool) → r x ≡ o → q x ≡ b → filter p (map u (filter_map r xs)) ≡ filter_map (λ x. option_map u (r x)) (filter q xs) →
        filter p (map u (cons_option o (filter_map r xs))) ≡ filter_map (λ x. option_map u (r x)) (cond b (x ∷ filter q xs) (filter q xs))
    either None true e t rest = rest ∙ sym (ap (λ o. cons_option (option_map u o) (filter_map (λ x. option_map u (r x)) (filter q xs))) e)
    either None false e t rest = rest
    either (Some y) true e t rest =
        ap (λ b. cond b (u y ∷ filter p (map u (filter_map r xs))) (filter p (map u (filter_map r xs)))) (tests 0 x y refl e ∙ t) ∙ ap (λ zs. u y ∷ zs) rest
        ∙ sym (ap (λ o. cons_option (option_map u o) (filter_map (λ x. option_map u (r x)) (filter q xs))) e)
    either (Some y) false e t rest =
        ap (λ b. cond b (u y ∷ filter p (map u (filter_map r xs))) (filter p (map u (filter_map r xs)))) (tests 0 x y refl e ∙ t) ∙ rest

-- node `n` of a graph as row `n`
abbrev row_of : List Node → ℕ → Option Row
row_of g n = as_row n (get_or g n free_leaf)

-- the nodes from one on, as the rows of these places
rows_of-range : (g : List Node) (a : ℕ) (nodes : List Node) → ((i : ℕ) → i < length nodes → get_or nodes i free_leaf ≡ get_or g (a + i) free_leaf) → rows_from a nodes ≡ filter_map (row_of g) (range_with_len a (length nodes))
rows_of-range g a [] are = refl
rows_of-range g a (node ∷ nodes) are =
    let zero_a : a + 0 ≡ a = omega arith in
    let here : node ≡ get_or g a free_leaf = are 0 (omega arith) ∙ ap (λ n. get_or g n free_leaf) zero_a in
    ap (λ x. cons_option (as_row a x) (rows_from (a + 1) nodes)) here
    ∙ ap (cons_option (row_of g a)) (rows_of-range g (a + 1) nodes (λ i lt. are (suc i) (omega (arith, lt)) ∙ (let s : a + suc i ≡ a + 1 + i = omega arith in ap (λ n. get_or g n free_leaf) s)))

map-cons_option : {A B : Type 0} (u : A → B) (o : Option A) (xs : List A) → map u (cons_option o xs) ≡ cons_option (option_map u o) (map u xs)
map-cons_option u None xs = refl
map-cons_option u (Some x) xs = refl

-- nodes under other numbers, as rows of theirs
placed_rows : (g : List Node) (place f h : ℕ → ℕ) (b : ℕ) (ns : List ℕ) → ((i n : ℕ) → slice_get ns i ≡ Some n → h (b + i) ≡ f n) → ((i n : ℕ) → slice_get ns i ≡ Some n → map h (map place (kids_of g n)) ≡ map f (kids_of g n)) →
    map (under h) (rows_from b (renumbered g place ns)) ≡ filter_map (λ n. option_map (under f) (row_of g n)) ns
placed_rows g place f h b [] numbers kids = refl
placed_rows g place f h b (n ∷ ns) numbers kids =
    let zero_b : b + 0 ≡ b = omega arith in
    let number : h b ≡ f n = ap h (sym zero_b) ∙ numbers 0 n refl in
    map-cons_option (under h) (as_row b (renumbered_node g place n)) (rows_from (b + 1) (renumbered g place ns))
    ∙ ap (λ o. cons_option o (map (under h) (rows_from (b + 1) (renumbered g place ns)))) (one (label_of g n) number (kids 0 n refl))
    ∙ ap (cons_option (option_map (under f) (row_of g n))) (placed_rows g place f h (b + 1) ns
    (λ i m e. (let s : b + 1 + i ≡ b + suc i = omega arith in ap h s) ∙ numbers (suc i) m e) (λ i. kids (suc i)))
  where
    one : (o : Option Label) → h b ≡ f n → map h (map place (kids_of g n)) ≡ map f (kids_of g n) →
        option_map (under h) (option_map (λ l. record { number = b; label = l; kids = map place (kids_of g n) }) o) ≡ option_map (under f) (option_map (λ l. record { number = n; label = l; kids = kids_of g n }) o)
    one None number kids = refl
    one (Some l) number kids = ap (λ k. Some (record { number = k; label = l; kids = map h (map place (kids_of g n)) })) number ∙ ap (λ ks. Some (record { number = f n; label = l; kids = ks })) kids

-- the nodes that pass a test, in order, as rows under their old numbers
pub kept_rows : (g : List Node) (place f h : ℕ → ℕ) (p q : ℕ → Bool) → ((k : ℕ) → k < length g → p (f k) ≡ q k) →
    ((i n : ℕ) → slice_get (filter q (range_with_len 0 (length g))) i ≡ Some n → h i ≡ f n) →
    ((i n : ℕ) → slice_get (filter q (range_with_len 0 (length g))) i ≡ Some n → map h (map place (kids_of g n)) ≡ map f (kids_of g n)) →
    map (under h) (rows_of (renumbered g place (filter q (range_with_len 0 (length g))))) ≡ filter (λ row. p row.number) (map (under f) (rows_of g))
kept_rows g place f h p q tests numbers kids =
    placed_rows g place f h 0 (filter q (range_with_len 0 (length g))) (λ i n e. (let s : 0 + i ≡ i = omega arith in ap h s) ∙ numbers i n e) kids
    ∙ sym (filter-made (under f) (row_of g) (λ row. p row.number) q (range_with_len 0 (length g)) (λ k n row at e.
    ap (λ m. p (f m)) (stored_number n (get_or g n free_leaf) row e) ∙ tests n (omega (arith, in_range_of 0 (length g) k n at))))
    ∙ sym (ap (λ rows. filter (λ row. p row.number) (map (under f) rows)) (rows_of-range g 0 g (λ i lt. (let s : i ≡ 0 + i = omega arith in ap (λ n. get_or g n free_leaf) s))))

module _ (q : ℕ → Bool) (n : ℕ) where
  kept_more : filter q (range_with_len 0 (n + 1)) ≡ filter q (range_with_len 0 n) ++ filter q (n ∷ [])
  kept_more =
      let zero_n : 0 + n ≡ n = omega arith in
      ap (filter q) (range_more 0 n ∙ ap (λ x. range_with_len 0 n ++ x ∷ []) zero_n) ∙ filter-append q (range_with_len 0 n) (n ∷ [])

  not_met : list_any (nat_eq n) (filter q (range_with_len 0 n)) ≡ false
  not_met = same_bool (list_any (nat_eq n) (filter q (range_with_len 0 n))) false
      (λ t.
      let h = was_kept q (range_with_len 0 n) n (any_is n (filter q (range_with_len 0 n)) t) in
      let bound = in_range_of 0 n h.0.0 n h.0.1 in
      absurd (omega (arith, bound.1)))
      (λ t. absurd (false≢true t))

  -- one more node, which passes or doesn't
  pub kept_push : q n ≡ true → with_number (filter q (range_with_len 0 n)) n ≡ filter q (range_with_len 0 (n + 1))
  kept_push t =
      ap (λ b. cond b (filter q (range_with_len 0 n)) (filter q (range_with_len 0 n) ++ n ∷ [])) not_met
      ∙ sym (ap (λ b. filter q (range_with_len 0 n) ++ cond b (n ∷ []) []) t) ∙ sym kept_more

  pub kept_skip : q n ≡ false → filter q (range_with_len 0 n) ≡ filter q (range_with_len 0 (n + 1))
  kept_skip t = sym (append-nil (filter q (range_with_len 0 n))) ∙ sym (ap (λ b. filter q (range_with_len 0 n) ++ cond b (n ∷ []) []) t) ∙ sym kept_more

-- tests that agree on a list keep the same
pub kept_alike : (q r : ℕ → Bool) (xs : List ℕ) → ((k x : ℕ) → slice_get xs k ≡ Some x → q x ≡ r x) → filter q xs ≡ filter r xs
kept_alike q r [] alike = refl
kept_alike q r (x ∷ xs) alike =
    ap (λ b. cond b (x ∷ filter q xs) (filter q xs)) (alike 0 x refl) ∙ ap (λ ys. cond (r x) (x ∷ ys) ys) (kept_alike q r xs (λ k. alike (suc k)))
