-- Nodes under numbers as rows: closed, apart, and what becomes of them where a tree is added and where walks from pins leave some.
use Rattle.std.proofs.Common.{◌≡◌, ℕ, ◌<◌, ◌≤◌, ◌+◌, ◌-◌, List, [], ◌∷◌, ◌++◌, length, map, Option, Some, None, option_and_then, slice_get, refl, sym, subst, ap, ◌∙◌, arith, inl, inr, All, Contains, length-append}
use Rattle.std.specs.Option.{option_map}
use Rattle.std.specs.List.{range_with_len}
use Rattle.std.proofs.lemmas.Bool.{cases_order, cases_lt}
use Rattle.std.proofs.lemmas.Option.{get_or_from_slice_get, slice_get-get_or}
use Rattle.std.proofs.lemmas.List.{length-map, map-append}
use Rattle.std.proofs.lemmas.List.FromFn.{length-range_with_len, get_or-range_with_len}
use Rattle.std.proofs.lemmas.List.Elements.{All-weaker, All-append}
use Rattle.mars_base.proofs.ListFacts.{All-get, All-from_gets, Contains-get, get-Contains, get-append_before, get-append_after, map-same}
use Rattle.mars_tree.specs.Graph.{Node, IsGraph, IsGround, kids_of, end_of}
use Rattle.mars_tree.proofs.CallerLemmas.{kid_in}
use Rattle.mars_rows.specs.Rows.{Row, HasRow, row_end, tree_of}
use Rattle.mars_rows.specs.Finding.{find_row}
use Rattle.mars_rows.specs.Object.{fresh_before, row_number, fresh_rows}
use Rattle.mars_rows.specs.Sound.{AreClosed, IsApart}
use Rattle.mars_rows.specs.RowsInside.{rows_of}
use Rattle.mars_rows.specs.StockInside.{number_of_node, under, stock_rows, NumbersRise, IsStock}
use Rattle.mars_rows.specs.TreeGraph.{IsTreeGraph}
use Rattle.mars_rows.proofs.FreshRows.{in_range_of}
use Rattle.mars_rows.proofs.Grown.{grown_apart}
use Rattle.mars_rows.proofs.Pinned.{own_row}
use Rattle.mars_rows.proofs.Stored.{closed_stored, apart_stored, has_stored, stored_in, kids_stored, length-stored}
use Rattle.mars_rows.proofs.Under.{has_under, old_of, end_under, tree_under, closed_under, apart_under, find_under, fresh_under, number_under, rows_under}
use Rattle.mars_rows.proofs.WithFresh.{HasGrown}

-- numbers that rise are one where their places are
pub rising_one : (ns : List ℕ) → NumbersRise ns → (i j : ℕ) → i < length ns → j < length ns → number_of_node ns i ≡ number_of_node ns j → i ≡ j
rising_one ns rising i j i_in j_in e = elim (cases_order i j) [
  | inl same ↦ same
  | inr other ↦ elim other [
    | inl lt ↦ let a = rising i j lt j_in in absurd (omega (arith, a, e))
    | inr lt ↦ let a = rising j i lt i_in in absurd (omega (arith, a, e))
  ]
]

-- a walk over the rows of places is one over nodes
pub end_stored : (g : List Node) → IsGraph g → IsGround g → (path : List ℕ) (i : ℕ) → i < length g → row_end (rows_of g) i path ≡ end_of g i path
end_stored g g_is ground [] i i_in = refl
end_stored g g_is ground (k ∷ path) i i_in =
    ap (λ xs. option_and_then (λ kid. row_end (rows_of g) kid path) (slice_get xs k)) (kids_stored g g_is ground i i_in)
    ∙ either (slice_get (kids_of g i) k) (λ m e. end_stored g g_is ground path m (kid_in g i k m g_is i_in e))
  where
    either : (o : Option ℕ) → ((m : ℕ) → o ≡ Some m → row_end (rows_of g) m path ≡ end_of g m path) →
        option_and_then (λ kid. row_end (rows_of g) kid path) o ≡ option_and_then (λ kid. end_of g kid path) o
    either None rest = refl
    either (Some m) rest = rest m refl

module _ (g : List Node) (ns : List ℕ) (is : IsStock g ns) where
  pub stock_one : (a b : ℕ) → HasRow (rows_of g) a → HasRow (rows_of g) b → number_of_node ns a ≡ number_of_node ns b → a ≡ b
  stock_one a b has_a has_b e =
      let a_in : a < length g = stored_in g is.graph is.labels a has_a in
      let b_in : b < length g = stored_in g is.graph is.labels b has_b in
      rising_one ns is.rising a b (omega (arith, a_in, is.size)) (omega (arith, b_in, is.size)) e

  closed_rows : AreClosed (rows_of g)
  closed_rows = closed_stored g is.graph is.labels

  pub closed_stock : AreClosed (stock_rows g ns)
  closed_stock = closed_under (rows_of g) (number_of_node ns) closed_rows stock_one

  pub apart_stock : IsApart (stock_rows g ns)
  apart_stock = apart_under (rows_of g) (number_of_node ns) closed_rows stock_one (apart_stored g is.graph is.labels is.apart)

  -- each place has a row
  pub has_stock : (k : ℕ) → k < length g → HasRow (stock_rows g ns) (number_of_node ns k)
  has_stock k k_in = has_under (rows_of g) (number_of_node ns) closed_rows stock_one k (has_stored g is.graph is.labels k k_in)

  -- each row has a place
  pub stock_place : (h : ℕ) → HasRow (stock_rows g ns) h → (k : ℕ) × (k < length g) × (number_of_node ns k ≡ h)
  stock_place h has =
      let old = old_of (rows_of g) (number_of_node ns) closed_rows stock_one h has in
      (old.0, stored_in g is.graph is.labels old.0 old.1, old.2)

  pub stock_contains : (h : ℕ) → HasRow (stock_rows g ns) h → Contains ns h
  stock_contains h has =
      let p = stock_place h has in
      let lt : p.0 < length ns = omega (arith, p.1, is.size) in
      Contains-get ns p.0 h (slice_get-get_or ns p.0 0 lt ∙ ap (λ n. Some n) p.2)

  pub contains_stock : (h : ℕ) → Contains ns h → HasRow (stock_rows g ns) h
  contains_stock h c =
      let p = get-Contains ns h c in
      subst (HasRow (stock_rows g ns)) (get_or_from_slice_get ns p.0 h 0 p.2) (has_stock p.0 (omega (arith, p.1, is.size)))

  pub tree_stock : (k : ℕ) → k < length g → (path : List ℕ) → tree_of (stock_rows g ns) (number_of_node ns k) path ≡ tree_of (rows_of g) k path
  tree_stock k k_in = tree_under (rows_of g) (number_of_node ns) closed_rows stock_one k (has_stored g is.graph is.labels k k_in)

  pub end_stock : (path : List ℕ) (k : ℕ) → k < length g → row_end (stock_rows g ns) (number_of_node ns k) path ≡ option_map (number_of_node ns) (end_of g k path)
  end_stock path k k_in =
      end_under (rows_of g) (number_of_node ns) closed_rows stock_one path k (has_stored g is.graph is.labels k k_in) ∙ ap (option_map (number_of_node ns)) (end_stored g is.graph is.labels path k k_in)

  pub length-stock : length (stock_rows g ns) ≡ length g
  length-stock = length-map (rows_of g) (under (number_of_node ns)) ∙ length-stored 0 g is.labels

  pub below_stock : (next : ℕ) → All (λ n. n < next) ns → All (λ row. row.number < next) (stock_rows g ns)
  below_stock next below = All-from_gets (λ (row : Row). row.number < next) (stock_rows g ns) (λ i row e.
      let c = get-Contains ns row.number (stock_contains row.number (own_row (stock_rows g ns) i row e)) in
      All-get (λ n. n < next) ns c.0 row.number below c.2)

  module _ (tree : List Node) (is_tree : IsTreeGraph tree) where
    pub find_stock : (n : ℕ) → n < length tree → find_row (stock_rows g ns) tree n ≡ option_map (number_of_node ns) (find_row (rows_of g) tree n)
    find_stock = find_under (rows_of g) (number_of_node ns) closed_rows stock_one (apart_stored g is.graph is.labels is.apart) tree is_tree.graph is_tree.labels

    pub fresh_stock : (n : ℕ) → n ≤ length tree → fresh_before (stock_rows g ns) tree n ≡ fresh_before (rows_of g) tree n
    fresh_stock = fresh_under (rows_of g) (number_of_node ns) closed_rows stock_one (apart_stored g is.graph is.labels is.apart) tree is_tree.graph is_tree.labels

    -- numbers counted up from the next one come after those of the rows
    module _ (next : ℕ) (below : All (λ n. n < next) ns) (grown : List Node) (has : HasGrown g tree grown) where
      more : List ℕ
      more = ns ++ range_with_len next (fresh_before (rows_of g) tree (length tree))

      old_number : (k : ℕ) → k < length g → number_of_node more k ≡ number_of_node ns k
      unfolding more
      old_number k k_in =
          let lt : k < length ns = omega (arith, k_in, is.size) in
          let at : slice_get ns k ≡ Some (number_of_node ns k) = slice_get-get_or ns k 0 lt in
          get_or_from_slice_get (ns ++ range_with_len next (fresh_before (rows_of g) tree (length tree))) k (number_of_node ns k) 0 (get-append_before ns (range_with_len next (fresh_before (rows_of g) tree (length tree))) k lt ∙ at)

      new_number : (k : ℕ) → k < fresh_before (rows_of g) tree (length tree) → number_of_node more (length g + k) ≡ next + k
      unfolding more
      new_number k k_in =
          let count : ℕ = fresh_before (rows_of g) tree (length tree) in
          let at : slice_get (range_with_len next count) k ≡ Some (next + k) = slice_get-get_or (range_with_len next count) k 0 (omega (arith, length-range_with_len next count, k_in)) ∙ ap (λ n. Some n) (get_or-range_with_len next count k 0 k_in) in
          let place : length g + k ≡ length ns + k = omega (arith, is.size) in
          ap (number_of_node (ns ++ range_with_len next count)) place
          ∙ get_or_from_slice_get (ns ++ range_with_len next count) (length ns + k) (next + k) 0 (get-append_after ns (range_with_len next count) k ∙ at)

      old_row : (i : ℕ) (row : Row) → slice_get (rows_of g) i ≡ Some row → under (number_of_node more) row ≡ under (number_of_node ns) row
      old_row i row e =
          let kids : All (HasRow (rows_of g)) row.kids = All-get (λ (r : Row). All (HasRow (rows_of g)) r.kids) (rows_of g) i row closed_rows.kids e in
          ap (λ n. record { number = n; label = row.label; kids = map (number_of_node more) row.kids }) (old_number row.number (stored_in g is.graph is.labels row.number (own_row (rows_of g) i row e)))
          ∙ ap (λ ks. record { number = number_of_node ns row.number; label = row.label; kids = ks })
          (map-same (number_of_node more) (number_of_node ns) row.kids (λ k kid there. old_number kid (stored_in g is.graph is.labels kid (All-get (HasRow (rows_of g)) row.kids k kid kids there))))

      pub stock_grown : stock_rows grown (ns ++ range_with_len next (fresh_before (rows_of g) tree (length tree))) ≡ stock_rows g ns ++ fresh_rows (stock_rows g ns) next tree
      unfolding more
      stock_grown =
          ap (map (under (number_of_node more))) has.rows ∙ map-append (under (number_of_node more)) (rows_of g) (fresh_rows (rows_of g) (length g) tree)
          ∙ ap (λ rows. rows ++ map (under (number_of_node more)) (fresh_rows (rows_of g) (length g) tree)) (map-same (under (number_of_node more)) (under (number_of_node ns)) (rows_of g) old_row)
          ∙ ap (λ rows. stock_rows g ns ++ rows) (sym (rows_under (rows_of g) (number_of_node ns) closed_rows stock_one (apart_stored g is.graph is.labels is.apart) tree is_tree.graph is_tree.labels
          (length g) next (number_of_node more) (λ h there. old_number h (stored_in g is.graph is.labels h there)) (λ h there. stored_in g is.graph is.labels h there) new_number))

      -- a node's number is that at its place
      pub number_grown : (n : ℕ) → n < length tree → number_of_node (ns ++ range_with_len next (fresh_before (rows_of g) tree (length tree))) (row_number (rows_of g) (length g) tree n) ≡ row_number (stock_rows g ns) next tree n
      unfolding more
      number_grown n n_in = sym (number_under (rows_of g) (number_of_node ns) closed_rows stock_one (apart_stored g is.graph is.labels is.apart) tree is_tree.graph is_tree.labels
          (length g) next (number_of_node more) (λ h there. old_number h (stored_in g is.graph is.labels h there)) (λ h there. stored_in g is.graph is.labels h there) new_number n n_in)

      more_size : length more ≡ length g + fresh_before (rows_of g) tree (length tree)
      unfolding more
      more_size =
          let count : ℕ = fresh_before (rows_of g) tree (length tree) in
          omega (arith, length-append ns (range_with_len next count), length-range_with_len next count, is.size)

      rising_more : NumbersRise more
      rising_more i j lt j_in =
          let count : ℕ = fresh_before (rows_of g) tree (length tree) in
          let size : length more ≡ length g + count = more_size in
          elim (cases_lt j (length g)) [
            | inl j_old ↦
                let a : number_of_node ns i < number_of_node ns j = is.rising i j lt (omega (arith, j_old, is.size)) in
                omega (arith, a, old_number i (omega (arith, lt, j_old)), old_number j j_old)
            | inr j_new ↦
                let y = after j j_new in
                let j_is : number_of_node more j ≡ next + y.0 = ap (number_of_node more) y.1 ∙ new_number y.0 (omega (arith, y.1, j_in, size)) in
                elim (cases_lt i (length g)) [
                  | inl i_old ↦
                      let old_in : i < length ns = omega (arith, i_old, is.size) in
                      let a : number_of_node ns i < next = All-get (λ n. n < next) ns i (number_of_node ns i) below (slice_get-get_or ns i 0 old_in) in
                      omega (arith, a, old_number i i_old, j_is)
                  | inr i_new ↦
                      let x = after i i_new in
                      let i_is : number_of_node more i ≡ next + x.0 = ap (number_of_node more) x.1 ∙ new_number x.0 (omega (arith, x.1, y.1, lt, j_in, size)) in
                      omega (arith, i_is, j_is, x.1, y.1, lt)
                ]
          ]
        where
          after : (k : ℕ) → length g ≤ k → (d : ℕ) × (k ≡ length g + d)
          after k le = (k - length g, omega (arith, le))

      pub is_grown : IsStock grown (ns ++ range_with_len next (fresh_before (rows_of g) tree (length tree)))
      unfolding more
      is_grown = record {
        graph = has.graph;
        labels = has.labels;
        apart = grown_apart g tree grown is.graph is.labels is.apart is_tree has.graph has.labels has.rows;
        size = omega (arith, more_size, has.count);
        rising = rising_more;
      }

      pub below_grown : All (λ n. n < next + fresh_before (rows_of g) tree (length tree)) (ns ++ range_with_len next (fresh_before (rows_of g) tree (length tree)))
      below_grown =
          let count : ℕ = fresh_before (rows_of g) tree (length tree) in
          All-append (λ n. n < next + count) ns (range_with_len next count) (All-weaker (λ n. n < next) (λ n. n < next + count) (λ n lt. omega (arith, lt)) ns below)
          (All-from_gets (λ n. n < next + count) (range_with_len next count) (λ k n e. (in_range_of next count k n e).1))
