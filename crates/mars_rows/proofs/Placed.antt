-- The places of numbers that were looked up.
use Rattle.std.proofs.Common.{◌≡◌, ℕ, ◌<◌, ◌≤◌, List, length, Some, None, sym, ap, ◌∙◌, arith, inl, inr, All, Contains}
use Rattle.std.specs.Option.{option_map}
use Rattle.mars_base.proofs.ListFacts.{All-get, get-Contains}
use Rattle.mars_tree.specs.Graph.{Node}
use Rattle.mars_rows.specs.Finding.{find_row}
use Rattle.mars_rows.specs.IndexInside.{guess}
use Rattle.mars_rows.specs.Rows.{HasRow}
use Rattle.mars_rows.specs.RowsInside.{rows_of}
use Rattle.mars_rows.specs.StockInside.{number_of_node, stock_rows, IsStock}
use Rattle.mars_rows.specs.TreeGraph.{IsTreeGraph}
use Rattle.mars_rows.proofs.Found.{find_means, option_map_some}
use Rattle.mars_rows.proofs.FoundNodes.{found_is}
use Rattle.mars_rows.proofs.LookedUp.{none_or_some, below_found, past_missed}
use Rattle.mars_rows.proofs.Stocked.{rising_one, closed_stock, apart_stock, stock_contains, find_stock}

module _ (g : List Node) (ns : List ℕ) (is : IsStock g ns) (next : ℕ) (below : All (λ n. n < next) ns) where
  pub stock_below : (h : ℕ) → HasRow (stock_rows g ns) h → h < next
  stock_below h has = let c = get-Contains ns h (stock_contains g ns is h has) in All-get (λ n. n < next) ns c.0 h below c.2

  module _ (tree : List Node) (is_tree : IsTreeGraph tree) (n number : ℕ) (n_in : n < length tree) (e : number ≡ guess (stock_rows g ns) next tree n) where
    pub number_found : number < next → find_row (stock_rows g ns) tree n ≡ Some number
    number_found lt = below_found (stock_rows g ns) (closed_stock g ns is) (apart_stock g ns is) tree is_tree next stock_below n number n_in e lt

    pub number_missed : next ≤ number → find_row (stock_rows g ns) tree n ≡ None
    number_missed le = past_missed (stock_rows g ns) (closed_stock g ns is) (apart_stock g ns is) tree is_tree next stock_below n number n_in e le

    pub number_there : number < next → Contains ns number
    number_there lt =
        stock_contains g ns is number ((find_means (stock_rows g ns) tree n number (closed_stock g ns is) (apart_stock g ns is) is_tree.graph is_tree.labels n_in).0 (number_found lt)).0

    pub place_found : number < next → (p : ℕ) → p < length ns → number_of_node ns p ≡ number → Some p ≡ find_row (rows_of g) tree n
    place_found lt p p_in at =
        let some = option_map_some (number_of_node ns) (find_row (rows_of g) tree n) number (sym (find_stock g ns is tree is_tree n n_in) ∙ number_found lt) in
        let k_in : some.0 < length g = (found_is g tree is.graph is.labels is.apart is_tree.graph is_tree.labels n n_in some.0 some.1).0 in
        let one : p ≡ some.0 = rising_one ns is.rising p some.0 p_in (omega (arith, k_in, is.size)) (at ∙ sym some.2) in
        ap (λ k. Some k) one ∙ sym some.1

    pub place_missed : next ≤ number → None ≡ find_row (rows_of g) tree n
    place_missed le = elim (none_or_some (find_row (rows_of g) tree n)) [
      | inl none ↦ sym none
      | inr some ↦
          let clash : None ≡ Some (number_of_node ns some.0) = sym (number_missed le) ∙ find_stock g ns is tree is_tree n n_in ∙ ap (option_map (number_of_node ns)) some.1 in
          cc
    ]
