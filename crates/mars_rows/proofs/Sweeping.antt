-- The rows that a sweep leaves are the nodes that walks from pins meet.
use Rattle.std.proofs.Common.{◌≡◌, ◌≢◌, ℕ, ◌<◌, ◌≤◌, Bool, true, nat_eq, cond, List, [], ◌∷◌, length, map, filter, Option, Some, None, slice_get, get_or, sym, subst, ap, ◌∙◌, arith, inl, inr, All, IsSome, Contains}
use Rattle.std.specs.Option.{option_map}
use Rattle.std.specs.List.{list_any, range_with_len}
use Rattle.std.proofs.lemmas.Bool.{cases_order}
use Rattle.std.proofs.lemmas.Option.{same_Some, option_and_then_some, slice_get-map, get_or_from_slice_get, slice_get-get_or}
use Rattle.std.proofs.lemmas.List.{length-map}
use Rattle.std.proofs.lemmas.List.Elements.{All-weaker, All-map, All-contains}
use Rattle.mars_base.proofs.ListFacts.{All-get, All-from_gets, Contains-get, get-Contains, map-same}
use Rattle.mars_tree.specs.Graph.{Node, IsGraph, label_of, kids_of, end_of}
use Rattle.mars_tree.specs.Renumbered.{renumbered_node, renumbered}
use Rattle.mars_tree.proofs.CallerLemmas.{kid_in, end_in, label_in}
use Rattle.mars_reach.specs.Order.{AreDistinct, IsReached, place_in}
use Rattle.mars_reach.specs.Part.{IsClosed}
use Rattle.mars_reach.proofs.Images.{image_apart, image_small}
use Rattle.mars_reach.proofs.Parts.{part_image}
use Rattle.mars_reach.proofs.Queues.{place_get}
use Rattle.mars_rows.specs.Rows.{Row, row_at, HasRow, row_end}
use Rattle.mars_rows.specs.Object.{TableObject, is_met, sweep}
use Rattle.mars_rows.specs.Sound.{IsMet}
use Rattle.mars_rows.specs.RowsInside.{rows_of}
use Rattle.mars_rows.specs.StockInside.{number_of_node, under, stock_rows, IsStock, AreKept}
use Rattle.mars_rows.proofs.Found.{option_map_some}
use Rattle.mars_rows.proofs.FreshRows.{in_range_of}
use Rattle.mars_rows.proofs.Keeping.{same_bool, kept_by, was_kept, range_has, kept_rise, kept_rows}
use Rattle.mars_rows.proofs.Pinned.{passes}
use Rattle.mars_rows.proofs.Stocked.{rising_one, closed_stock, has_stock, contains_stock, end_stock}
use Rattle.mars_rows.proofs.Swept.{any_is, is_any, row_at-filter, sweep_means}
use Rattle.mars_rows.proofs.Under.{map-twice}

-- what closed nodes lead to is among them
walks_in : (g : List Node) (met : List ℕ) → IsClosed g met → (path : List ℕ) (a b : ℕ) → Contains met a → end_of g a path ≡ Some b → Contains met b
walks_in g met closed [] a b there e = subst (Contains met) (same_Some a b e) there
walks_in g met closed (k ∷ path) a b there e =
    option_and_then_some (λ m. end_of g m path) (slice_get (kids_of g a) k) b e (λ m first rest.
    walks_in g met closed path m b (All-get (Contains met) (kids_of g a) k m (All-contains (λ n. All (Contains met) (kids_of g n)) met a closed there) first) rest)

module _ (g : List Node) (ns : List ℕ) (is : IsStock g ns) (pins : List (ℕ × ℕ)) (pinned : All (λ pin. Contains ns pin.1) pins) (roots order : List ℕ)
    (within : All (λ root. root < length ns) roots) (are : map (number_of_node ns) roots ≡ map (λ pin. pin.1) pins) (kept : AreKept g roots order) where
  is_in : ℕ → Bool
  is_in n = list_any (nat_eq n) kept.met

  met_in : (n : ℕ) → Contains kept.met n → is_in n ≡ true
  unfolding is_in
  met_in n there = let p = get-Contains kept.met n there in is_any n kept.met (p.0, p.2)

  in_met : (n : ℕ) → is_in n ≡ true → Contains kept.met n
  unfolding is_in
  in_met n t = let h = any_is n kept.met t in Contains-get kept.met h.0 n h.1

  order_was : (k n : ℕ) → slice_get order k ≡ Some n → (n < length g) × (is_in n ≡ true)
  unfolding is_in
  order_was k n e =
      let was = was_kept (λ n. list_any (nat_eq n) kept.met) (range_with_len 0 (length g)) n (k, ap (λ xs. slice_get xs k) (sym kept.is) ∙ e) in
      (omega (arith, in_range_of 0 (length g) was.0.0 n was.0.1), was.1)

  order_has : (n : ℕ) → n < length g → Contains kept.met n → Contains order n
  order_has n n_in there =
      let p = get-Contains kept.met n there in
      let h = kept_by (λ n. list_any (nat_eq n) kept.met) (range_with_len 0 (length g)) n (range_has 0 (length g) n (omega arith) (omega (arith, n_in))) (is_any n kept.met (p.0, p.2)) in
      Contains-get order h.0 n (ap (λ xs. slice_get xs h.0) kept.is ∙ h.1)

  pub order_in : All (λ n. n < length g) order
  order_in = All-from_gets (λ n. n < length g) order (λ k n e. (order_was k n e).0)

  -- the kids of what is kept are kept
  kid_kept : (k n j kid : ℕ) → slice_get order k ≡ Some n → slice_get (kids_of g n) j ≡ Some kid → Contains order kid
  kid_kept k n j kid e f =
      let was = order_was k n e in
      order_has kid (kid_in g n j kid is.graph was.0 f) (All-get (Contains kept.met) (kids_of g n) j kid (All-contains (λ n. All (Contains kept.met) (kids_of g n)) kept.met n kept.closed (in_met n was.1)) f)

  pub order_closed : IsClosed g order
  order_closed = All-from_gets (λ n. All (Contains order) (kids_of g n)) order (λ k n e. All-from_gets (Contains order) (kids_of g n) (λ j kid f. kid_kept k n j kid e f))

  order_rises : (i j x y : ℕ) → i < j → slice_get order i ≡ Some x → slice_get order j ≡ Some y → x < y
  order_rises i j x y lt left right =
      kept_rise (λ n. list_any (nat_eq n) kept.met) 0 (length g) i j x y lt (ap (λ xs. slice_get xs i) (sym kept.is) ∙ left) (ap (λ xs. slice_get xs j) (sym kept.is) ∙ right)

  order_distinct : AreDistinct order
  order_distinct i j n left right = elim (cases_order i j) [
    | inl same ↦ same
    | inr other ↦ elim other [
      | inl lt ↦ let a : n < n = order_rises i j n n lt left right in absurd (omega (arith, a))
      | inr lt ↦ let a : n < n = order_rises j i n n lt right left in absurd (omega (arith, a))
    ]
  ]

  -- the pin of a root, and the root of a pin
  pin_of : (i r : ℕ) → slice_get roots i ≡ Some r → (pin : ℕ × ℕ) × (slice_get pins i ≡ Some pin) × (pin.1 ≡ number_of_node ns r)
  pin_of i r e =
      option_map_some (λ (pin : ℕ × ℕ). pin.1) (slice_get pins i) (number_of_node ns r)
      (sym (slice_get-map (λ (pin : ℕ × ℕ). pin.1) pins i) ∙ ap (λ xs. slice_get xs i) (sym are) ∙ slice_get-map (number_of_node ns) roots i ∙ ap (option_map (number_of_node ns)) e)

  root_of : (i : ℕ) (pin : ℕ × ℕ) → slice_get pins i ≡ Some pin → (r : ℕ) × (slice_get roots i ≡ Some r) × (number_of_node ns r ≡ pin.1)
  root_of i pin e =
      option_map_some (number_of_node ns) (slice_get roots i) pin.1
      (sym (slice_get-map (number_of_node ns) roots i) ∙ ap (λ xs. slice_get xs i) are ∙ slice_get-map (λ (pin : ℕ × ℕ). pin.1) pins i ∙ ap (option_map (λ (pin : ℕ × ℕ). pin.1)) e)

  root_in : (i r : ℕ) → slice_get roots i ≡ Some r → r < length g
  root_in i r e = let a : r < length ns = All-get (λ root. root < length ns) roots i r within e in omega (arith, a, is.size)

  abbrev table : TableObject
  table = record { rows = stock_rows g ns; pins = pins; next = 0; limit = 0 }

  pins_have : All (λ pin. HasRow (stock_rows g ns) pin.1) pins
  pins_have = All-weaker (λ (pin : ℕ × ℕ). Contains ns pin.1) (λ (pin : ℕ × ℕ). HasRow (stock_rows g ns) pin.1) (λ pin there. contains_stock g ns is pin.1 there) pins pinned

  -- a walk from a pin meets a row where the node was met
  pub met_is : (k : ℕ) → k < length g → is_met table (number_of_node ns k) ≡ list_any (nat_eq k) kept.met
  unfolding is_in
  met_is k k_in =
      let h : ℕ = number_of_node ns k in
      let has : HasRow (stock_rows g ns) h = has_stock g ns is k k_in in
      let means = (sweep_means table (closed_stock g ns is) pins_have).0 h in
      same_bool (is_met table h) (list_any (nat_eq k) kept.met)
      (λ e.
      let stays : HasRow (sweep table).rows h = subst (λ (o : Option Row). IsSome o) (sym (row_at-filter (is_met table) (stock_rows g ns) h ∙ ap (λ b. cond b (row_at (stock_rows g ns) h) None) e)) has in
      let m = means.0 stays in
      let p = get-Contains pins m.pin m.pinned in
      let r = root_of p.0 m.pin p.2 in
      let r_in : r.0 < length g = root_in p.0 r.0 r.1 in
      let ends = option_map_some (number_of_node ns) (end_of g r.0 m.path) h (sym (end_stock g ns is m.path r.0 r_in) ∙ ap (λ n. row_end (stock_rows g ns) n m.path) r.2 ∙ m.meets) in
      let end_is : ends.0 < length g = end_in g r.0 m.path ends.0 is.graph r_in ends.1 in
      let same : ends.0 ≡ k = rising_one ns is.rising ends.0 k (omega (arith, end_is, is.size)) (omega (arith, k_in, is.size)) ends.2 in
      met_in k (subst (Contains kept.met) same (walks_in g kept.met kept.closed m.path r.0 ends.0 (All-get (Contains kept.met) roots p.0 r.0 kept.roots_in r.1) ends.1)))
      (λ t.
      let p = get-Contains kept.met k (in_met k t) in
      let reached : IsReached g roots k = All-get (IsReached g roots) kept.met p.0 k kept.reach.reached p.2 in
      option_and_then_some (λ root. end_of g root reached.0.1) (slice_get roots reached.0.0) k reached.1 (λ r r_at ends.
      let pin = pin_of reached.0.0 r r_at in
      let met : IsMet table h = record {
        pin = pin.0;
        pinned = Contains-get pins reached.0.0 pin.0 pin.1;
        path = reached.0.1;
        meets = ap (λ n. row_end (stock_rows g ns) n reached.0.1) pin.2 ∙ end_stock g ns is reached.0.1 r (root_in reached.0.0 r r_at) ∙ ap (option_map (number_of_node ns)) ends;
      } in
      passes (is_met table) (stock_rows g ns) h (means.1 met)))

  number_kept : (i n : ℕ) → slice_get order i ≡ Some n → number_of_node (map (number_of_node ns) order) i ≡ number_of_node ns n
  number_kept i n e = get_or_from_slice_get (map (number_of_node ns) order) i (number_of_node ns n) 0 (slice_get-map (number_of_node ns) order i ∙ ap (option_map (number_of_node ns)) e)

  kids_kept : (i n : ℕ) → slice_get order i ≡ Some n → map (number_of_node (map (number_of_node ns) order)) (map (place_in order) (kids_of g n)) ≡ map (number_of_node ns) (kids_of g n)
  kids_kept i n e =
      map-twice (number_of_node (map (number_of_node ns) order)) (place_in order) (kids_of g n)
      ∙ map-same (λ kid. number_of_node (map (number_of_node ns) order) (place_in order kid)) (number_of_node ns) (kids_of g n) (λ j kid f. number_kept (place_in order kid) kid (place_get order kid (kid_kept i n j kid e f)))

  -- the rows of what is kept are those that a walk from a pin meets
  pub swept_rows : stock_rows (renumbered g (place_in order) order) (map (number_of_node ns) order) ≡ filter (λ row. is_met table row.number) (stock_rows g ns)
  swept_rows =
      ap (λ ks. map (under (number_of_node (map (number_of_node ns) order))) (rows_of (renumbered g (place_in order) ks))) kept.is
      ∙ kept_rows g (place_in order) (number_of_node ns) (number_of_node (map (number_of_node ns) order)) (is_met table) (λ n. list_any (nat_eq n) kept.met) met_is
      (λ i n e. number_kept i n (ap (λ xs. slice_get xs i) kept.is ∙ e)) (λ i n e. kids_kept i n (ap (λ xs. slice_get xs i) kept.is ∙ e))

  pub swept_stock : IsGraph (renumbered g (place_in order) order) → IsStock (renumbered g (place_in order) order) (map (number_of_node ns) order)
  swept_stock graph = record {
    graph = graph;
    labels = All-map (λ (node : Node). node.label ≢ None) (renumbered_node g (place_in order)) order (All-from_gets (λ n. label_of g n ≢ None) order (λ k n e. label_in g n is.labels (order_was k n e).0));
    apart = image_apart g (Contains order) (place_in order) (renumbered g (place_in order) order) (part_image g order order_distinct order_in order_closed)
        (λ u v u_in v_in same. ap (place_in order) (is.apart u v (All-contains (λ n. n < length g) order u order_in u_in) (All-contains (λ n. n < length g) order v order_in v_in) same));
    size = length-map order (number_of_node ns) ∙ sym (length-map order (renumbered_node g (place_in order)));
    rising = λ i j lt j_in.
        let size : length (map (number_of_node ns) order) ≡ length order = length-map order (number_of_node ns) in
        let x = slice_get-get_or order i 0 (omega (arith, lt, j_in, size)) in
        let y = slice_get-get_or order j 0 (omega (arith, j_in, size)) in
        let a : get_or order i 0 < get_or order j 0 = order_rises i j (get_or order i 0) (get_or order j 0) lt x y in
        let y_in : get_or order j 0 < length g = (order_was j (get_or order j 0) y).0 in
        let b : number_of_node ns (get_or order i 0) < number_of_node ns (get_or order j 0) = is.rising (get_or order i 0) (get_or order j 0) a (omega (arith, y_in, is.size)) in
        omega (arith, b, number_kept i (get_or order i 0) x, number_kept j (get_or order j 0) y);
  }

  pub swept_among : All (Contains ns) (map (number_of_node ns) order)
  swept_among = All-map (Contains ns) (number_of_node ns) order (All-from_gets (λ n. Contains ns (number_of_node ns n)) order (λ k n e.
      let n_in : n < length g = (order_was k n e).0 in
      Contains-get ns n (number_of_node ns n) (slice_get-get_or ns n 0 (omega (arith, n_in, is.size)))))

  -- pins stay
  pub swept_pinned : All (λ pin. Contains (map (number_of_node ns) order) pin.1) pins
  swept_pinned = All-from_gets (λ (pin : ℕ × ℕ). Contains (map (number_of_node ns) order) pin.1) pins (λ i pin e.
      let r = root_of i pin e in
      let p = get-Contains order r.0 (order_has r.0 (root_in i r.0 r.1) (All-get (Contains kept.met) roots i r.0 kept.roots_in r.1)) in
      Contains-get (map (number_of_node ns) order) p.0 pin.1 (slice_get-map (number_of_node ns) order p.0 ∙ ap (option_map (number_of_node ns)) p.2 ∙ ap (λ n. Some n) r.2))

  pub swept_small : length (renumbered g (place_in order) order) ≤ length g
  swept_small = image_small g (Contains order) (place_in order) (renumbered g (place_in order) order) (part_image g order order_distinct order_in order_closed)
