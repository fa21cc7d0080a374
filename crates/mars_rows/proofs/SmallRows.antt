-- Rows that came in with a tree: they stay so where a tree is added and where rows are swept, and each has a tree.
use Rattle.std.proofs.Common.{◌≡◌, ℕ, ◌<◌, ◌≤◌, List, ◌++◌, [], ◌∷◌, length, subst, sym, ap, ◌∙◌, arith, inl, inr, All}
use Rattle.mars_tree.specs.Graph.{Node, Same}
use Rattle.mars_tree.specs.Canonical.{KeepsWalks}
use Rattle.mars_canon.specs.Canon.{Rooted, IsCanon}
use Rattle.mars_canon.specs.Tree.{IsTree, FitsTree, most_nodes}
use Rattle.mars_rows.specs.Object.{TableObject, fresh_rows, sweep}
use Rattle.mars_rows.specs.Rows.{Row, HasRow, IsRowOf, tree_of}
use Rattle.mars_rows.specs.Sound.{AreClosed, IsApart, IsSound}
use Rattle.mars_rows.specs.StockInside.{number_of_node, stock_rows, IsStock}
use Rattle.mars_rows.specs.StoreInside.{IsSmallRow, AreSmallRows}
use Rattle.mars_rows.specs.TreeGraph.{IsTreeGraph}
use Rattle.mars_rows.proofs.Interning.{intern_means, old_or_node}
use Rattle.mars_rows.proofs.RowGraphs.{one_is_root, form_tree, form_same, fewest}
use Rattle.mars_rows.proofs.Stocked.{has_stock, tree_stock}
use Rattle.mars_rows.proofs.Stored.{tree_stored}
use Rattle.mars_rows.proofs.TreeFacts.{tree_some}
use Rattle.mars_rows.proofs.SweepsSound.{was_row, same_tree}

module _ (rows : List Row) (next : ℕ) (g : List Node) (closed : AreClosed rows) (apart : IsApart rows) (below : All (λ row. row.number < next) rows) (is : IsTree g) where
  pub small_grown : AreSmallRows rows → AreSmallRows (rows ++ fresh_rows rows next g)
  small_grown small h has =
      let m = intern_means rows next g closed apart below is.graph is.ground is.canonical.distinct in
      elim (old_or_node rows next g closed apart below is.graph is.ground is.canonical.distinct h has) as (λ w. IsSmallRow (rows ++ fresh_rows rows next g) h) [
        | inl old ↦
            let s = small h old in
            record { graph = s.graph; node = s.node; is_tree = s.is_tree; within = s.within; same = λ path. m.kept h old path ∙ s.same path }
        | inr w ↦ record { graph = g; node = w.0; is_tree = is; within = w.1; same = subst (λ (k : ℕ). IsRowOf (rows ++ fresh_rows rows next g) k g w.0) w.3 (m.trees w.0 w.1).1 }
      ]

module _ (t : TableObject) (sound : IsSound t) where
  pub small_swept : AreSmallRows t.rows → AreSmallRows (sweep t).rows
  small_swept small h has =
      let s = small h (was_row t sound h has) in
      record { graph = s.graph; node = s.node; is_tree = s.is_tree; within = s.within; same = λ path. same_tree t sound h has path ∙ s.same path }

-- rows stay so where nodes and numbers do
pub same_small : (g h : List Node) (ns ms : List ℕ) → h ≡ g → ms ≡ ns → AreSmallRows (stock_rows g ns) → AreSmallRows (stock_rows h ms)
same_small g h ns ms nodes numbers small =
    subst (λ (x : List Node). AreSmallRows (stock_rows x ms)) (sym nodes) (subst (λ (xs : List ℕ). AreSmallRows (stock_rows g xs)) (sym numbers) small)

-- the canonical graph of such a row isn't too large
pub few_nodes : (rows : List Row) (h : ℕ) (c : List Node) → IsSmallRow rows h → IsTreeGraph c → IsRowOf rows h c 0 → length c ≤ most_nodes
few_nodes rows h c small is row =
    let same : Same c 0 small.graph small.node = λ path. sym (row path) ∙ small.same path in
    let few = fewest c small.graph small.node is small.is_tree.graph small.within same in
    omega (arith, few, small.is_tree.few)

-- the canonical graph of the node of a row is the tree of the row
module _ (g : List Node) (ns : List ℕ) (is : IsStock g ns) (small : AreSmallRows (stock_rows g ns)) (h place : ℕ) (within : place < length ns) (e : number_of_node ns place ≡ h)
    (c : Rooted) (canon_is : IsCanon c) (keeps : KeepsWalks g (place ∷ []) c.nodes c.roots) where
  place_in : place < length g
  place_in = omega (arith, within, is.size)

  has_h : HasRow (stock_rows g ns) h
  has_h = subst (HasRow (stock_rows g ns)) e (has_stock g ns is place place_in)

  form : IsTreeGraph c.nodes
  form = form_tree g place c canon_is keeps is.graph is.labels place_in

  pub row_form : IsRowOf (stock_rows g ns) h c.nodes 0
  row_form path =
      ap (λ (k : ℕ). tree_of (stock_rows g ns) k path) (sym e) ∙ tree_stock g ns is place place_in path ∙ tree_stored g is.graph is.labels place place_in path
      ∙ sym (form_same g place c canon_is keeps is.graph is.labels place_in path)

  few : length c.nodes ≤ most_nodes
  few = few_nodes (stock_rows g ns) h c.nodes (small h has_h) form row_form

  pub row_fits : FitsTree c
  row_fits = record { ground = form.labels; root = one_is_root g place c canon_is keeps is.graph is.labels place_in; few = few }

  pub row_tree : IsTree c.nodes
  row_tree = record { graph = form.graph; ground = form.labels; canonical = form.canonical; root = tree_some c.nodes form; few = few }
