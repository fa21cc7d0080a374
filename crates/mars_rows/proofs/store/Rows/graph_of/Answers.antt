use Rattle.std.proofs.Common.{◌≡◌, ℕ, ◌<◌, List, length, Contains, subst, sym}
use Rattle.mars_tree.specs.Graph.{Node}
use Rattle.mars_canon.specs.Canon.{IsCanon}
use Rattle.mars_canon.specs.Tree.{IsTree}
use Rattle.mars_rows.specs.Rows.{HasRow, IsRowOf}
use Rattle.mars_rows.specs.RowsObject.{RowsObject}
use Rattle.mars_rows.specs.StockInside.{number_of_node, stock_rows}
use Rattle.mars_rows.specs.StoreInside.{rows_object_of}
use Rattle.mars_rows.proofs.SmallRows.{row_form, row_fits, row_tree}
use Rattle.mars_rows.proofs.Stocked.{stock_contains}
use Rattle.mars_rows.proofs.store.Rows.graph_of.Goals as goal

pub place_of-place-requires-clause-there : goal.place_of-place-requires-clause-there
place_of-place-requires-clause-there c =
    let p = c.self.inside in
    let has : HasRow (rows_object_of p).table.rows c.args.id = subst (λ (o : RowsObject). HasRow o.table.rows c.args.id) (sym c.self.view_is) c.requires in
    subst (λ (ns : List ℕ). Contains ns c.args.id) (sym c.deref.ensures.value) (stock_contains p.stock.nodes p.stock.numbers.items c.self.invariant.stock c.args.id has)

pub unreachable-requires : goal.unreachable-requires
unreachable-requires c =
    let p = c.self.inside in
    let i = c.self.invariant in
    let ns = p.stock.numbers.items in
    let place = c.place_of-place.result in
    let within = subst (λ (ms : List ℕ). place < length ms) c.deref.ensures.value c.place_of-place.ensures.within in
    let at = subst (λ (ms : List ℕ). number_of_node ms place ≡ c.args.id) c.deref.ensures.value c.place_of-place.ensures.is in
    let e = c.len-count.ensures in
    let is : IsCanon c.in_ok-form.form = record { graph = e.graph; canonical = e.canonical; roots_in = e.roots_in } in
    let unfit = rw c.in-None.is at c.in_ok-tree.ensures in
    unfit (row_fits p.stock.nodes ns i.stock i.trees c.args.id place within at c.in_ok-form.form is c.in_ok-form.ensures.keeps)

pub returns-clause-tree : goal.returns-clause-tree
returns-clause-tree c =
    let p = c.self.inside in
    let i = c.self.invariant in
    let ns = p.stock.numbers.items in
    let place = c.place_of-place.result in
    let within = subst (λ (ms : List ℕ). place < length ms) c.deref.ensures.value c.place_of-place.ensures.within in
    let at = subst (λ (ms : List ℕ). number_of_node ms place ≡ c.args.id) c.deref.ensures.value c.place_of-place.ensures.is in
    let e = c.len-count.ensures in
    let is : IsCanon c.in_ok-form.form = record { graph = e.graph; canonical = e.canonical; roots_in = e.roots_in } in
    let fits = rw c.in-Some.is at c.in_ok-tree.ensures in
    subst IsTree (sym fits.1) (row_tree p.stock.nodes ns i.stock i.trees c.args.id place within at c.in_ok-form.form is c.in_ok-form.ensures.keeps)

pub returns-clause-row : goal.returns-clause-row
returns-clause-row c =
    let p = c.self.inside in
    let i = c.self.invariant in
    let ns = p.stock.numbers.items in
    let place = c.place_of-place.result in
    let within = subst (λ (ms : List ℕ). place < length ms) c.deref.ensures.value c.place_of-place.ensures.within in
    let at = subst (λ (ms : List ℕ). number_of_node ms place ≡ c.args.id) c.deref.ensures.value c.place_of-place.ensures.is in
    let e = c.len-count.ensures in
    let is : IsCanon c.in_ok-form.form = record { graph = e.graph; canonical = e.canonical; roots_in = e.roots_in } in
    let fits = rw c.in-Some.is at c.in_ok-tree.ensures in
    subst (λ (o : RowsObject). IsRowOf o.table.rows c.args.id c.in-Some.tree 0) c.self.view_is
    (subst (λ (tree : List Node). IsRowOf (stock_rows p.stock.nodes ns) c.args.id tree 0) (sym fits.1) (row_form p.stock.nodes ns i.stock i.trees c.args.id place within at c.in_ok-form.form is c.in_ok-form.ensures.keeps))
