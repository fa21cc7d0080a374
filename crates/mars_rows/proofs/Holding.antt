-- What is added to a table, by the tests for the limit, and what holds of rows that were swept or found.
use Rattle.std.proofs.Common.{◌≡◌, ◌≢◌, ℕ, zero, suc, ◌<◌, ◌≤◌, ◌+◌, ◌^◌, true, false, cond, not, nat_lt, nat_eq, List, [], ◌∷◌, length, map, Some, slice_get, refl, sym, subst, ap, ◌∙◌, arith, inl, inr, All, Contains, eq-eqb}
use Rattle.std.specs.Option.{option_map}
use Rattle.std.specs.List.{AllByRecursion, IsDistinct}
use Rattle.std.proofs.lemmas.Bool.{false≢true, cases_lt}
use Rattle.std.proofs.lemmas.Bool.Decides.{nat_tests}
use Rattle.std.proofs.lemmas.Option.{same_Some, slice_get-map}
use Rattle.std.proofs.lemmas.List.Elements.{All-weaker, All-contains}
use Rattle.mars_base.proofs.ListFacts.{All-get, All-from_gets, get-Contains}
use Rattle.mars_tree.specs.Graph.{Node}
use Rattle.mars_canon.specs.Tree.{most_nodes}
use Rattle.mars_rows.specs.FreshInside.{fresh_nodes}
use Rattle.mars_rows.specs.IndexInside.{Pair, IsRowIndex}
use Rattle.mars_rows.specs.Rows.{Row, HasRow}
use Rattle.mars_rows.specs.Object.{TableObject, fresh_before, row_number, sweep}
use Rattle.mars_rows.specs.RowsInside.{rows_of}
use Rattle.mars_rows.specs.RowsObject.{fits, with_tree, root, too_many, add, add_to}
use Rattle.mars_rows.specs.Sound.{IsSound}
use Rattle.mars_rows.specs.StockInside.{number_of_node, under, stock_rows, IsStock}
use Rattle.mars_rows.specs.TreeGraph.{IsTreeGraph}
use Rattle.mars_rows.proofs.Distinct.{numbers, apart_from}
use Rattle.mars_rows.proofs.Found.{option_map_some}
use Rattle.mars_rows.proofs.FreshRows.{length-fresh}
use Rattle.mars_rows.proofs.Pinned.{own_row}
use Rattle.mars_rows.proofs.Stocked.{stock_one, closed_stock, apart_stock, contains_stock, length-stock, below_stock, fresh_stock}
use Rattle.mars_rows.proofs.Stored.{distinct_stored}

pub not_more : (cap n : ℕ) → not (nat_lt cap n) ≡ true → n ≤ cap
not_more cap n e = elim (cases_lt cap n) [
  | inl lt ↦ let t : nat_lt cap n ≡ true = grind (arith, nat_tests) in absurd (false≢true (sym (ap not t) ∙ e))
  | inr le ↦ le
]

module _ (t : TableObject) (g : List Node) where
  pub add_here : fits t g ≡ true → add t g ≡ root (row_number t.rows t.next g 0) (with_tree t g)
  add_here e =
      ap (λ b. add_to (cond b t (sweep t)) g) e
      ∙ ap (λ b. cond b (root (row_number t.rows t.next g 0) (with_tree t g)) (too_many (length t.rows) (fresh_before t.rows g (length g)))) e

  pub add_swept : fits t g ≡ false → fits (sweep t) g ≡ true → add t g ≡ root (row_number (sweep t).rows t.next g 0) (with_tree (sweep t) g)
  add_swept full e =
      ap (λ b. add_to (cond b t (sweep t)) g) full
      ∙ ap (λ b. cond b (root (row_number (sweep t).rows t.next g 0) (with_tree (sweep t) g)) (too_many (length (sweep t).rows) (fresh_before (sweep t).rows g (length g)))) e

  pub add_full : fits t g ≡ false → fits (sweep t) g ≡ false → add t g ≡ too_many (length (sweep t).rows) (fresh_before (sweep t).rows g (length g))
  add_full full e =
      ap (λ b. add_to (cond b t (sweep t)) g) full
      ∙ ap (λ b. cond b (root (row_number (sweep t).rows t.next g 0) (with_tree (sweep t) g)) (too_many (length (sweep t).rows) (fresh_before (sweep t).rows g (length g)))) e

-- numbers that are among others are below the next one too
pub among_below : (ns left : List ℕ) (next : ℕ) → All (λ n. n < next) ns → All (Contains ns) left → All (λ n. n < next) left
among_below ns left next below among = All-weaker (Contains ns) (λ n. n < next) (λ n there. let p = get-Contains ns n there in All-get (λ n. n < next) ns p.0 n below p.2) left among

-- pins on numbers that are all kept stay
pub pins_kept : (ns more : List ℕ) (pins : List (ℕ × ℕ)) → All (Contains more) ns → All (λ pin. Contains ns pin.1) pins → All (λ pin. Contains more pin.1) pins
pins_kept ns more pins kept pinned =
    All-weaker (λ (pin : ℕ × ℕ). Contains ns pin.1) (λ (pin : ℕ × ℕ). Contains more pin.1) (λ pin there. All-contains (Contains more) ns pin.1 kept there) pins pinned

module _ (g : List Node) (ns : List ℕ) (is : IsStock g ns) (tree : List Node) (is_tree : IsTreeGraph tree) (fresh : List ℕ) (fresh_are : fresh ≡ fresh_nodes (rows_of g) tree (length tree)) where
  pub counted_fresh : length fresh ≡ fresh_before (stock_rows g ns) tree (length tree)
  counted_fresh = ap length fresh_are ∙ length-fresh (rows_of g) (length g) tree (length tree) ∙ sym (fresh_stock g ns is tree is_tree (length tree) (omega arith))

  pub counted_all : length g + length fresh ≡ length (stock_rows g ns) + fresh_before (stock_rows g ns) tree (length tree)
  counted_all = omega (arith, counted_fresh, length-stock g ns is)

at_by_recursion : (P : ℕ → Type 0) (xs : List ℕ) (k x : ℕ) → AllByRecursion P xs → slice_get xs k ≡ Some x → P x
at_by_recursion P [] k x all e = cc
at_by_recursion P (y ∷ xs) zero x all e = subst P (same_Some y x e) all.0
at_by_recursion P (y ∷ xs) (suc k) x all e = at_by_recursion P xs k x all.1 e

-- other numbers that are distinct where the numbers are
distinct_under : (f : ℕ → ℕ) (rows : List Row) → ((i j : ℕ) (x y : Row) → slice_get rows i ≡ Some x → slice_get rows j ≡ Some y → f x.number ≡ f y.number → x.number ≡ y.number) →
    IsDistinct nat_eq (numbers rows) → IsDistinct nat_eq (numbers (map (under f) rows))
unfolding IsDistinct
distinct_under f [] one d = d
distinct_under f (r ∷ rows) one d = (
  apart_from (f r.number) (map (under f) rows) (All-from_gets (λ (row : Row). f r.number ≢ row.number) (map (under f) rows) (λ k row e same.
      let old = option_map_some (under f) (slice_get rows k) row (sym (slice_get-map (under f) rows k) ∙ e) in
      let equal : r.number ≡ old.0.number = one 0 (suc k) r old.0 refl old.1 (same ∙ ap (λ (x : Row). x.number) (sym old.2)) in
      let number : slice_get (numbers rows) k ≡ Some old.0.number = slice_get-map (λ (x : Row). x.number) rows k ∙ ap (option_map (λ (x : Row). x.number)) old.1 in
      false≢true (sym (at_by_recursion (λ y. nat_eq r.number y ≡ false) (numbers rows) k old.0.number d.0 number) ∙ eq-eqb r.number old.0.number equal))),
  distinct_under f rows (λ i j. one (suc i) (suc j)) d.1,
)

-- what the fields hold is sound
pub sound_stock : (g : List Node) (ns : List ℕ) → IsStock g ns → (pins : List (ℕ × ℕ)) (next cap : ℕ) → All (λ n. n < next) ns → All (λ pin. Contains ns pin.1) pins → length g ≤ cap →
    IsSound (record { rows = stock_rows g ns; pins = pins; next = next; limit = cap })
sound_stock g ns is pins next cap below pinned within = record {
  numbers = distinct_under (number_of_node ns) (rows_of g) (λ i j x y left right e. stock_one g ns is x.number y.number (own_row (rows_of g) i x left) (own_row (rows_of g) j y right) e) (distinct_stored 0 g is.labels);
  below = below_stock g ns is next below;
  closed = closed_stock g ns is;
  pins = All-weaker (λ (pin : ℕ × ℕ). Contains ns pin.1) (λ (pin : ℕ × ℕ). HasRow (stock_rows g ns) pin.1) (λ pin there. contains_stock g ns is pin.1 there) pins pinned;
  limit = omega (arith, within, length-stock g ns is);
  apart = apart_stock g ns is;
}

-- an index stays where rows and entries do
pub same_index : (g h : List Node) (ns ms : List ℕ) (entries others : List Pair) → h ≡ g → ms ≡ ns → others ≡ entries → IsRowIndex (stock_rows g ns) entries → IsRowIndex (stock_rows h ms) others
same_index g h ns ms entries others nodes numbers same is =
    subst (λ (x : List Node). IsRowIndex (stock_rows x ms) others) (sym nodes) (subst (λ (xs : List ℕ). IsRowIndex (stock_rows g xs) others) (sym numbers) (subst (IsRowIndex (stock_rows g ns)) (sym same) is))

-- the next number stays small
pub still_small : (next count : ℕ) (tree : List Node) → next < 2 ^ 127 → length tree ≤ most_nodes → count ≤ length tree → next + count < 2 ^ 127 + 2 ^ 64
still_small next count tree small few le =
    let most : most_nodes ≡ 16384 = refl in
    omega arith
