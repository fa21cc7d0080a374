-- The index grows with the rows, and is made anew of a graph's nodes.
use Rattle.std.proofs.Common.{◌≡◌, ℕ, ◌<◌, ◌≤◌, ◌+◌, ◌-◌, ◌^◌, List, [], ◌++◌, length, map, Some, None, slice_get, refl, sym, subst, ap, ◌∙◌, arith, inl, inr, All}
use Rattle.std.specs.List.{range_with_len}
use Rattle.std.proofs.lemmas.Option.{same_Some, get_or_from_slice_get, slice_get-get_or, slice_get_within}
use Rattle.std.proofs.lemmas.List.FromFn.{length-range_with_len, get_or-range_with_len}
use Rattle.mars_base.proofs.ListFacts.{All-from_gets, get-append_after}
use Rattle.std.proofs.lemmas.List.{length-map}
use Rattle.std.proofs.lemmas.List.Elements.{All-weaker}
use Rattle.mars_tree.specs.Graph.{Node}
use Rattle.mars_tree.specs.Renumbered.{renumbered}
use Rattle.mars_comp.specs.Components.{AreComponents}
use Rattle.mars_comp.specs.KeyLaws.{IsParted}
use Rattle.mars_comp.specs.declared.items.Key.{Key}
use Rattle.mars_rows.specs.Finding.{find_row}
use Rattle.mars_rows.specs.FreshInside.{fresh_nodes, at_places}
use Rattle.mars_rows.specs.IndexInside.{Pair, rows_under, number_for, IsNumber, IsRowIndexOf, IsRowIndex, AreHeads, HasPart, AreMade, put}
use Rattle.mars_rows.specs.Object.{fresh_before, fresh_rows, row_number}
use Rattle.mars_rows.specs.Rows.{Row, HasRow}
use Rattle.mars_rows.specs.RowsInside.{rows_of}
use Rattle.mars_rows.specs.StockInside.{number_of_node, stock_rows, IsStock}
use Rattle.mars_rows.specs.TreeGraph.{IsTreeGraph}
use Rattle.mars_rows.proofs.Indexed.{put_index, index_stays, map_has}
use Rattle.mars_rows.proofs.Grown.{fresh_within, number_in as grown_in}
use Rattle.mars_rows.proofs.Interning.{intern_means, old_has, old_or_node}
use Rattle.mars_rows.proofs.LookedUp.{tree_parted}
use Rattle.mars_rows.proofs.Stocked.{closed_stock, apart_stock, below_stock, has_stock, tree_stock, stock_place, number_grown}
use Rattle.mars_rows.proofs.Stored.{tree_stored}
use Rattle.mars_rows.proofs.WithFresh.{HasGrown, has_grown}

range_has : (count n : ℕ) → n < count → slice_get (range_with_len 0 count) n ≡ Some n
range_has count n lt =
    let zero_n : 0 + n ≡ n = omega arith in
    slice_get-get_or (range_with_len 0 count) n 0 (omega (arith, lt, length-range_with_len 0 count)) ∙ ap (λ m. Some m) (get_or-range_with_len 0 count n 0 lt ∙ zero_n)

twice_has : (f r : ℕ → ℕ) (count n : ℕ) → n < count → number_for (map f (map r (range_with_len 0 count))) n ≡ f (r n)
twice_has f r count n lt =
    get_or_from_slice_get (map f (map r (range_with_len 0 count))) n (f (r n)) 0 (map_has f (map r (range_with_len 0 count)) (r n) n (map_has r (range_with_len 0 count) n n (range_has count n lt)))

module _ (g : List Node) (ns : List ℕ) (is : IsStock g ns) where
  -- each node's number is that of its row
  stock_number : (n : ℕ) → n < length g → IsNumber (stock_rows g ns) g n (number_for ns n)
  stock_number n n_in = (has_stock g ns is n n_in, λ path. tree_stock g ns is n n_in path ∙ tree_stored g is.graph is.labels n n_in path)

  stock_parted : (parts : List ℕ) → AreComponents g parts → IsParted g parts
  stock_parted parts are = record { graph = is.graph; ground = is.labels; apart = is.apart; components = are }

  -- the index of all rows
  pub stock_index : (parts heads : List ℕ) → AreComponents g parts → AreHeads parts heads → (entries old : List Pair) → old ≡ [] → AreMade g parts ns heads entries → (index : List Pair) →
      ((key : Key) → rows_under index key ≡ put entries (rows_under old) key) → IsRowIndex (stock_rows g ns) index
  stock_index parts heads are are_heads entries old none made index leads =
      let none_in : ℕ → Type 0 = λ h. ⊥ in
      let empty : IsRowIndexOf (stock_rows g ns) none_in old = record {
        each = λ key numbers e. let no : None ≡ Some numbers = ap (λ (es : List Pair). rows_under es key) (sym none) ∙ e in absurd cc;
        all = λ h gone. absurd gone;
      } in
      let i = put_index (stock_rows g ns) (apart_stock g ns is) none_in old empty g parts ns heads entries (stock_parted parts are) stock_number
      (λ k n e. let lt = are_heads.within k n e in omega (arith, lt, are.size)) made index leads in
      record {
        each = i.each;
        all = λ h has.
            let p = stock_place g ns is h has in
            i.all h (inr (p.0, p.1, are_heads.all p.0 (omega (arith, p.1, are.size)), p.2));
      }

  module _ (tree : List Node) (is_tree : IsTreeGraph tree) (places : List ℕ) (places_are : places ≡ map (row_number (rows_of g) (length g) tree) (range_with_len 0 (length tree))) where
    grown_by : List Node
    grown_by = g ++ renumbered tree (at_places places) (fresh_nodes (rows_of g) tree (length tree))

    grows : HasGrown g tree grown_by
    unfolding grown_by
    grows = has_grown g tree places (fresh_nodes (rows_of g) tree (length tree)) is.graph is.labels is.apart is_tree places_are refl grown_by refl

    -- no place is past those of the rows and the fresh nodes
    pub places_in : All (λ place. place < length ns + fresh_before (rows_of g) tree (length tree)) places
    places_in = All-from_gets (λ place. place < length ns + fresh_before (rows_of g) tree (length tree)) places (λ k place e.
        let k_in : k < length tree = omega (arith, slice_get_within places k place e, ap length places_are, length-map (range_with_len 0 (length tree)) (row_number (rows_of g) (length g) tree), length-range_with_len 0 (length tree)) in
        let there : slice_get places k ≡ Some (row_number (rows_of g) (length g) tree k) =
        ap (λ xs. slice_get xs k) places_are ∙ map_has (row_number (rows_of g) (length g) tree) (range_with_len 0 (length tree)) k k (range_has (length tree) k k_in) in
        let same : place ≡ row_number (rows_of g) (length g) tree k = same_Some place (row_number (rows_of g) (length g) tree k) (sym e ∙ there) in
        let lt : row_number (rows_of g) (length g) tree k < length grown_by = grown_in g tree grown_by is.graph is.labels is.apart is_tree grows.graph grows.labels grows.rows k k_in in
        omega (arith, same, lt, grows.count, is.size))

    pub places_few : (next : ℕ) → next + length tree < 2 ^ 128 → All (λ place. next + place < length ns + 2 ^ 128) places
    places_few next enough =
        All-weaker (λ place. place < length ns + fresh_before (rows_of g) tree (length tree)) (λ place. next + place < length ns + 2 ^ 128)
        (λ place lt. omega (arith, lt, fresh_within (rows_of g) tree (length tree))) places places_in

  module _ (tree : List Node) (is_tree : IsTreeGraph tree) (next : ℕ) (below : All (λ n. n < next) ns) (places names : List ℕ)
      (places_are : places ≡ map (row_number (rows_of g) (length g) tree) (range_with_len 0 (length tree)))
      (names_are : names ≡ map (number_of_node (ns ++ range_with_len next (fresh_before (rows_of g) tree (length tree)))) places) where
    -- the number of each node of the tree
    name_of : (n : ℕ) → n < length tree → number_for names n ≡ row_number (stock_rows g ns) next tree n
    name_of n n_in =
        let f : ℕ → ℕ = number_of_node (ns ++ range_with_len next (fresh_before (rows_of g) tree (length tree))) in
        ap (λ xs. number_for xs n) (names_are ∙ ap (map f) places_are) ∙ twice_has f (row_number (rows_of g) (length g) tree) (length tree) n n_in
        ∙ number_grown g ns is tree is_tree next below (grown_by tree is_tree places places_are) (grows tree is_tree places places_are) n n_in

    -- the index of the rows with those of the tree
    pub grown_index : (parts missed : List ℕ) → AreComponents tree parts → ((m : ℕ) → m < length tree → find_row (stock_rows g ns) tree m ≡ None → HasPart parts missed m) →
        ((k m : ℕ) → slice_get missed k ≡ Some m → m < length tree) → (old : List Pair) → IsRowIndex (stock_rows g ns) old → (entries : List Pair) → AreMade tree parts names missed entries → (index : List Pair) →
        ((key : Key) → rows_under index key ≡ put entries (rows_under old) key) → IsRowIndex (stock_rows g ns ++ fresh_rows (stock_rows g ns) next tree) index
    grown_index parts missed are missing missed_in old old_is entries made index leads =
        let rows : List Row = stock_rows g ns in
        let more : List Row = rows ++ fresh_rows rows next tree in
        let closed = closed_stock g ns is in
        let apart = apart_stock g ns is in
        let under = below_stock g ns is next below in
        let means = intern_means rows next tree closed apart under is_tree.graph is_tree.labels is_tree.canonical.distinct in
        let named : (n : ℕ) → n < length tree → IsNumber more tree n (number_for names n) = λ n n_in.
        subst (IsNumber more tree n) (sym (name_of n n_in)) (means.trees n n_in) in
        let stays = index_stays rows more (λ h has. ((old_has rows next tree closed apart under is_tree.graph is_tree.labels is_tree.canonical.distinct h has).0, means.kept h has)) old old_is in
        let i = put_index more means.apart (HasRow rows) old stays tree parts names missed entries (tree_parted tree parts is_tree are) named missed_in made index leads in
        record {
          each = i.each;
          all = λ h has. elim (old_or_node rows next tree closed apart under is_tree.graph is_tree.labels is_tree.canonical.distinct h has) [
            | inl old_one ↦ i.all h (inl old_one)
            | inr new ↦ i.all h (inr (new.0, new.1, missing new.0 new.1 new.2, name_of new.0 new.1 ∙ new.3))
          ];
        }

-- the next numbers follow those that are there
pub number_after : (ns : List ℕ) (next count place : ℕ) → length ns ≤ place → place < length ns + count → number_of_node (ns ++ range_with_len next count) place ≡ next + (place - length ns)
number_after ns next count place le lt =
    let d : ℕ = place - length ns in
    let e : place ≡ length ns + d = omega (arith, le) in
    let d_in : d < count = omega (arith, le, lt) in
    ap (number_of_node (ns ++ range_with_len next count)) e
    ∙ get_or_from_slice_get (ns ++ range_with_len next count) (length ns + d) (next + d) 0
    (get-append_after ns (range_with_len next count) d ∙ slice_get-get_or (range_with_len next count) d 0 (omega (arith, d_in, length-range_with_len next count)) ∙ ap (λ m. Some m) (get_or-range_with_len next count d 0 d_in))
