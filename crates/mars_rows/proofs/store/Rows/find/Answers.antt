use Rattle.std.proofs.Common.{◌≡◌, ℕ, ◌<◌, List, Option, IfOk, length, refl, ap, subst, sym, ◌∙◌, arith}
use Rattle.mars_tree.specs.Graph.{Node}
use Rattle.mars_canon.specs.Canon.{Rooted}
use Rattle.mars_canon.specs.Tree.{most_nodes}
use Rattle.mars_rows.specs.Finding.{find_row}
use Rattle.mars_rows.specs.RowsObject.{RowsObject}
use Rattle.mars_rows.specs.StockInside.{stock_rows}
use Rattle.mars_rows.specs.TreeGraph.{IsTreeGraph}
use Rattle.mars_rows.proofs.store.Rows.find.Goals as goal

pub find_number-requires-clause-tree : goal.find_number-requires-clause-tree
find_number-requires-clause-tree c =
    let is = c.len-count.ensures.tree in
    let nodes : c.graph.result.now ≡ c.args.tree.now = c.graph.ensures.nodes ∙ ap (λ (r : Rooted). r.nodes) c.in_ok-canon.ensures in
    subst IsTreeGraph (sym nodes) (record { graph = is.graph; labels = is.ground; canonical = is.canonical })

pub find_number-requires-clause-node_in : goal.find_number-requires-clause-node_in
find_number-requires-clause-node_in c =
    let nodes : c.graph.result.now ≡ c.args.tree.now = c.graph.ensures.nodes ∙ ap (λ (r : Rooted). r.nodes) c.in_ok-canon.ensures in
    subst (λ (g : List Node). c.args.node < length g) (sym nodes) c.requires

pub find_number-requires-clause-enough : goal.find_number-requires-clause-enough
find_number-requires-clause-enough c =
    let is = c.len-count.ensures.tree in
    let most : most_nodes ≡ 16384 = refl in
    let nodes : c.graph.result.now ≡ c.args.tree.now = c.graph.ensures.nodes ∙ ap (λ (r : Rooted). r.nodes) c.in_ok-canon.ensures in
    omega (arith, ap length nodes, is.few, most, c.self.invariant.small)

pub returns : goal.returns
returns c =
    let p = c.self.inside in
    let nodes : c.graph.result.now ≡ c.args.tree.now = c.graph.ensures.nodes ∙ ap (λ (r : Rooted). r.nodes) c.in_ok-canon.ensures in
    let same : find_row (stock_rows p.stock.nodes p.stock.numbers.items) c.graph.result.now c.args.node ≡ find_row c.args.self.now.table.rows c.args.tree.now c.args.node =
    ap (λ (g : List Node). find_row (stock_rows p.stock.nodes p.stock.numbers.items) g c.args.node) nodes ∙ ap (λ (o : RowsObject). find_row o.table.rows c.args.tree.now c.args.node) c.self.view_is in
    subst (λ (r : Option ℕ). IfOk c.find_number.result (λ found. found ≡ r)) same c.find_number.ensures
