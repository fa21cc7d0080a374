use Rattle.std.proofs.Common.{◌≡◌, ℕ, ◌<◌, ◌≤◌, ◌+◌, ◌^◌, not, nat_lt, List, ◌++◌, length, All, Contains, subst, sym, ap, ◌∙◌, arith, rules}
use Rattle.mars_tree.specs.Graph.{Node}
use Rattle.mars_rows.specs.Rows.{Row}
use Rattle.mars_rows.specs.Object.{fresh_before, fresh_rows}
use Rattle.mars_rows.specs.RowsObject.{RowsObject, fits, Adding, root, add}
use Rattle.mars_rows.specs.StockInside.{stock_rows, IsStock}
use Rattle.mars_rows.specs.StoreInside.{AreSmallRows, table_in}
use Rattle.mars_rows.specs.TreeGraph.{IsTreeGraph}
use Rattle.mars_rows.proofs.Holding.{not_more, add_here, pins_kept, counted_fresh, counted_all}
use Rattle.mars_rows.proofs.Grown.{fresh_within}
use Rattle.mars_rows.proofs.Holding.{same_index, still_small}
use Rattle.mars_rows.proofs.SmallRows.{same_small, small_grown}
use Rattle.mars_rows.proofs.Stocked.{length-stock, contains_stock, closed_stock, apart_stock, below_stock}
use Rattle.mars_rows.proofs.store.Rows.add_graph.Goals as goal

pub invariant_of-self : goal.invariant_of-self
invariant_of-self c =
    let p = c.self.inside in
    let i = c.self.invariant in
    let g = p.stock.nodes in
    let ns = p.stock.numbers.items in
    record {
      stock = i.stock;
      indexed = i.indexed;
      below = i.below;
      pinned = subst (All (λ (pin : ℕ × ℕ). Contains ns pin.1)) (sym c.in_err-reserve.ensures.items) i.pinned;
      within = i.within;
      fits = i.fits;
      trees = i.trees;
      small = i.small;
    }

pub invariant_of-self-in_err-numbered : goal.invariant_of-self-in_err-numbered
invariant_of-self-in_err-numbered c =
    let p = c.self.inside in
    let i = c.self.invariant in
    let g = p.stock.nodes in
    let ns = p.stock.numbers.items in
    record {
      stock = i.stock;
      indexed = i.indexed;
      below = i.below;
      pinned = subst (All (λ (pin : ℕ × ℕ). Contains ns pin.1)) (sym c.in_ok-reserve.ensures.items) i.pinned;
      within = i.within;
      fits = i.fits;
      trees = i.trees;
      small = i.small;
    }

pub invariant_of-self-in_err-root : goal.invariant_of-self-in_err-root
invariant_of-self-in_err-root c =
    let p = c.self.inside in
    let i = c.self.invariant in
    let g = p.stock.nodes in
    let ns = p.stock.numbers.items in
    let e = c.in_err-root.ensures in
    let new = c.grow.new.stock in
    record {
      stock = subst (λ (h : List Node). IsStock h new.numbers.items) (sym e.nodes_before) (subst (IsStock g) (sym e.numbers_before) i.stock);
      indexed = same_index g new.nodes ns new.numbers.items p.stock.index.entries new.index.entries e.nodes_before e.numbers_before e.index_before i.indexed;
      below = subst (All (λ number. number < p.next)) (sym e.numbers_before) i.below;
      pinned = subst (λ (xs : List ℕ). All (λ (pin : ℕ × ℕ). Contains xs pin.1) c.reserve.new.self.items) (sym e.numbers_before) (subst (All (λ (pin : ℕ × ℕ). Contains ns pin.1)) (sym c.in_ok-reserve.ensures.items) i.pinned);
      within = omega (arith, ap length e.nodes_before, i.within);
      fits = i.fits;
      trees = same_small g new.nodes ns new.numbers.items e.nodes_before e.numbers_before i.trees;
      small = i.small;
    }

pub invariant_of-self-then-is_within : goal.invariant_of-self-then-is_within
invariant_of-self-then-is_within c =
    let p = c.self.inside in
    let i = c.self.invariant in
    let g = p.stock.nodes in
    let ns = p.stock.numbers.items in
    let tree = c.args.tree.now in
    let q = c.requires.tree in
    let is_tree : IsTreeGraph tree = record { graph = q.graph; labels = q.ground; canonical = q.canonical } in
    let fresh = c.in_ok-numbered.numbered.fresh.items in
    let count : c.len-2.result ≡ length fresh = search rules in
    let all : c.len.result + c.len-2.result ≡ length (stock_rows g ns) + fresh_before (stock_rows g ns) tree (length tree) = omega (arith, c.len.ensures.len, count, counted_all g ns i.stock tree is_tree fresh c.in_ok-numbered.ensures.fresh) in
    let fit : c.is_within.result ≡ fits (table_in p) tree = c.is_within.ensures ∙ ap (λ n. not (nat_lt p.cap n)) all in
    let e = c.in_ok-root.ensures in
    let new = c.grow.new.stock in
    let more : c.len-then-is_within.result ≡ fresh_before (stock_rows g ns) tree (length tree) =
    (let again : c.len-then-is_within.result ≡ length fresh = search rules in again ∙ counted_fresh g ns i.stock tree is_tree fresh c.in_ok-numbered.ensures.fresh) in
    let within : length (stock_rows g ns) + fresh_before (stock_rows g ns) tree (length tree) ≤ p.cap = not_more p.cap (length (stock_rows g ns) + fresh_before (stock_rows g ns) tree (length tree)) (sym fit ∙ c.if-is_within.true) in
    record {
      stock = e.stock;
      indexed = e.index;
      below = subst (λ (k : ℕ). All (λ number. number < p.next + k) new.numbers.items) (sym more) e.below;
      pinned = pins_kept ns new.numbers.items c.reserve.new.self.items e.kept (subst (All (λ (pin : ℕ × ℕ). Contains ns pin.1)) (sym c.in_ok-reserve.ensures.items) i.pinned);
      within = omega (arith, e.count, within, length-stock g ns i.stock);
      fits = i.fits;
      trees = subst AreSmallRows (sym e.rows) (small_grown (stock_rows g ns) p.next tree (closed_stock g ns i.stock) (apart_stock g ns i.stock) (below_stock g ns i.stock p.next i.below) q i.trees);
      small = still_small p.next c.len-then-is_within.result tree (subst (λ (o : RowsObject). o.table.next < 2 ^ 127) (sym c.self.view_is) c.requires.next) q.few (omega (arith, more, fresh_within (stock_rows g ns) tree (length tree)));
    }

pub returns-then-is_within-clause-added : goal.returns-then-is_within-clause-added
returns-then-is_within-clause-added c =
    let p = c.self.inside in
    let i = c.self.invariant in
    let g = p.stock.nodes in
    let ns = p.stock.numbers.items in
    let tree = c.args.tree.now in
    let q = c.requires.tree in
    let is_tree : IsTreeGraph tree = record { graph = q.graph; labels = q.ground; canonical = q.canonical } in
    let fresh = c.in_ok-numbered.numbered.fresh.items in
    let count : c.len-2.result ≡ length fresh = search rules in
    let all : c.len.result + c.len-2.result ≡ length (stock_rows g ns) + fresh_before (stock_rows g ns) tree (length tree) = omega (arith, c.len.ensures.len, count, counted_all g ns i.stock tree is_tree fresh c.in_ok-numbered.ensures.fresh) in
    let fit : c.is_within.result ≡ fits (table_in p) tree = c.is_within.ensures ∙ ap (λ n. not (nat_lt p.cap n)) all in
    let e = c.in_ok-root.ensures in
    let new = c.grow.new.stock in
    let more : c.len-then-is_within.result ≡ fresh_before (stock_rows g ns) tree (length tree) =
    (let again : c.len-then-is_within.result ≡ length fresh = search rules in again ∙ counted_fresh g ns i.stock tree is_tree fresh c.in_ok-numbered.ensures.fresh) in
    let within : length (stock_rows g ns) + fresh_before (stock_rows g ns) tree (length tree) ≤ p.cap = not_more p.cap (length (stock_rows g ns) + fresh_before (stock_rows g ns) tree (length tree)) (sym fit ∙ c.if-is_within.true) in
    let as_root : ℕ → List Row → List (ℕ × ℕ) → ℕ → Adding = λ h rs ps n. root h (record { rows = rs; pins = ps; next = n; limit = p.cap }) in
    ap (λ (o : RowsObject). add o.table tree) (sym c.self.view_is) ∙ add_here (table_in p) tree (sym fit ∙ c.if-is_within.true)
    ∙ ap (λ h. as_root h (stock_rows g ns ++ fresh_rows (stock_rows g ns) p.next tree) p.pins.items (p.next + fresh_before (stock_rows g ns) tree (length tree))) (sym e.root)
    ∙ ap (λ rs. as_root c.in_ok-root.root rs p.pins.items (p.next + fresh_before (stock_rows g ns) tree (length tree))) (sym e.rows)
    ∙ ap (λ ps. as_root c.in_ok-root.root (stock_rows new.nodes new.numbers.items) ps (p.next + fresh_before (stock_rows g ns) tree (length tree))) (sym c.in_ok-reserve.ensures.items)
    ∙ ap (λ n. as_root c.in_ok-root.root (stock_rows new.nodes new.numbers.items) c.reserve.new.self.items (p.next + n)) (sym more)

pub returns-then-is_within-clause-root : goal.returns-then-is_within-clause-root
returns-then-is_within-clause-root c =
    let p = c.self.inside in
    let i = c.self.invariant in
    let g = p.stock.nodes in
    let ns = p.stock.numbers.items in
    let e = c.in_ok-root.ensures in
    let new = c.grow.new.stock in
    contains_stock new.nodes new.numbers.items e.stock c.in_ok-root.root e.root_in

pub invariant_of-self-else-is_within : goal.invariant_of-self-else-is_within
invariant_of-self-else-is_within c =
    let p = c.self.inside in
    let i = c.self.invariant in
    let g = p.stock.nodes in
    let ns = p.stock.numbers.items in
    record {
      stock = i.stock;
      indexed = i.indexed;
      below = i.below;
      pinned = subst (All (λ (pin : ℕ × ℕ). Contains ns pin.1)) (sym c.in_ok-reserve.ensures.items) i.pinned;
      within = i.within;
      fits = i.fits;
      trees = i.trees;
      small = i.small;
    }

pub add_to_swept-requires-clause-full : goal.add_to_swept-requires-clause-full
add_to_swept-requires-clause-full c =
    let p = c.self.inside in
    let i = c.self.invariant in
    let g = p.stock.nodes in
    let ns = p.stock.numbers.items in
    let tree = c.args.tree.now in
    let q = c.requires.tree in
    let is_tree : IsTreeGraph tree = record { graph = q.graph; labels = q.ground; canonical = q.canonical } in
    let fresh = c.in_ok-numbered.numbered.fresh.items in
    let count : c.len-2.result ≡ length fresh = search rules in
    let all : c.len.result + c.len-2.result ≡ length (stock_rows g ns) + fresh_before (stock_rows g ns) tree (length tree) = omega (arith, c.len.ensures.len, count, counted_all g ns i.stock tree is_tree fresh c.in_ok-numbered.ensures.fresh) in
    let fit : c.is_within.result ≡ fits (table_in p) tree = c.is_within.ensures ∙ ap (λ n. not (nat_lt p.cap n)) all in
    ap (λ ps. fits (record { rows = stock_rows g ns; pins = ps; next = p.next; limit = p.cap }) tree) c.in_ok-reserve.ensures.items ∙ sym fit ∙ c.if-is_within.false
