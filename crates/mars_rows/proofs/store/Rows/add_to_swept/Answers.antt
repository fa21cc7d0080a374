use Rattle.std.proofs.Common.{◌≡◌, ℕ, ◌<◌, ◌≤◌, ◌+◌, ◌^◌, not, nat_lt, false, List, ◌++◌, length, filter, All, Contains, subst, sym, ap, ◌∙◌, arith, rules, refl}
use Rattle.mars_rows.specs.Rows.{Row}
use Rattle.mars_rows.specs.Object.{fresh_before, fresh_rows, row_number, sweep, is_met}
use Rattle.mars_rows.specs.RowsObject.{RowsObject, fits, Adding, root, too_many, add}
use Rattle.mars_rows.specs.StockInside.{stock_rows}
use Rattle.mars_rows.specs.StoreInside.{AreSmallRows, table_in}
use Rattle.mars_rows.specs.TreeGraph.{IsTreeGraph}
use Rattle.mars_rows.proofs.Holding.{not_more, add_swept, add_full, among_below, pins_kept, counted_fresh, sound_stock}
use Rattle.mars_rows.proofs.Grown.{fresh_within}
use Rattle.mars_rows.proofs.Holding.{still_small}
use Rattle.mars_rows.proofs.SmallRows.{small_grown, small_swept}
use Rattle.mars_rows.proofs.Stocked.{length-stock, contains_stock, closed_stock, apart_stock, below_stock}
use Rattle.mars_rows.proofs.store.Rows.add_to_swept.Goals as goal

pub number_nodes-requires-clause-below : goal.number_nodes-requires-clause-below
number_nodes-requires-clause-below c =
    let p = c.self.inside in
    let i = c.self.invariant in
    let g = p.stock.nodes in
    let ns = p.stock.numbers.items in
    let h = c.in_ok-left.left.nodes in
    let ms = c.in_ok-left.left.numbers.items in
    let l = c.in_ok-left.ensures in
    among_below ns ms p.next i.below l.among

pub grow-requires-clause-below : goal.grow-requires-clause-below
grow-requires-clause-below c =
    let p = c.self.inside in
    let i = c.self.invariant in
    let g = p.stock.nodes in
    let ns = p.stock.numbers.items in
    let h = c.in_ok-left.left.nodes in
    let ms = c.in_ok-left.left.numbers.items in
    let l = c.in_ok-left.ensures in
    among_below ns ms p.next i.below l.among

pub returns-then-not-is_within-clause-added : goal.returns-then-not-is_within-clause-added
returns-then-not-is_within-clause-added c =
    let p = c.self.inside in
    let i = c.self.invariant in
    let g = p.stock.nodes in
    let ns = p.stock.numbers.items in
    let h = c.in_ok-left.left.nodes in
    let ms = c.in_ok-left.left.numbers.items in
    let l = c.in_ok-left.ensures in
    let tree = c.args.tree.now in
    let q = c.requires.tree in
    let is_tree : IsTreeGraph tree = record { graph = q.graph; labels = q.ground; canonical = q.canonical } in
    let fresh = c.in_ok-numbered.numbered.fresh.items in
    let count : c.len-2.result ≡ length fresh = search rules in
    let rest : List Row = (sweep (table_in p)).rows in
    let rows : stock_rows h ms ≡ rest =
    l.rows ∙ ap (λ ps. filter (λ (row : Row). is_met (record { rows = stock_rows g ns; pins = ps; next = 0; limit = 0 }) row.number) (stock_rows g ns)) c.deref.ensures.value in
    let fresh_is : length fresh ≡ fresh_before rest tree (length tree) = counted_fresh h ms l.stock tree is_tree fresh c.in_ok-numbered.ensures.fresh ∙ ap (λ rs. fresh_before rs tree (length tree)) rows in
    let size : length h ≡ length rest = sym (length-stock h ms l.stock) ∙ ap length rows in
    let all : c.len.result + c.len-2.result ≡ length rest + fresh_before rest tree (length tree) = omega (arith, c.len.ensures.len, count, fresh_is, size) in
    let fit : c.is_within.result ≡ fits (sweep (table_in p)) tree = c.is_within.ensures ∙ ap (λ n. not (nat_lt p.cap n)) all in
    let full : fits (table_in p) tree ≡ false = ap (λ (o : RowsObject). fits o.table tree) c.self.view_is ∙ c.requires.full in
    let again : c.len-then-not-is_within-2.result ≡ length fresh = search rules in (
      ap (λ (o : RowsObject). add o.table tree) (sym c.self.view_is) ∙ add_full (table_in p) tree full (sym fit ∙ c.if-not-is_within.true)
          ∙ ap (λ n. too_many n (fresh_before rest tree (length tree))) (sym (c.len-then-not-is_within.ensures.len ∙ size))
          ∙ ap (λ n. too_many c.len-then-not-is_within.result n) (sym (again ∙ fresh_is)),
      refl,
    )

pub invariant_of-self : goal.invariant_of-self
invariant_of-self c =
    let p = c.self.inside in
    let i = c.self.invariant in
    let g = p.stock.nodes in
    let ns = p.stock.numbers.items in
    let h = c.in_ok-left.left.nodes in
    let ms = c.in_ok-left.left.numbers.items in
    let l = c.in_ok-left.ensures in
    let tree = c.args.tree.now in
    let q = c.requires.tree in
    let is_tree : IsTreeGraph tree = record { graph = q.graph; labels = q.ground; canonical = q.canonical } in
    let fresh = c.in_ok-numbered.numbered.fresh.items in
    let count : c.len-2.result ≡ length fresh = search rules in
    let rest : List Row = (sweep (table_in p)).rows in
    let rows : stock_rows h ms ≡ rest =
    l.rows ∙ ap (λ ps. filter (λ (row : Row). is_met (record { rows = stock_rows g ns; pins = ps; next = 0; limit = 0 }) row.number) (stock_rows g ns)) c.deref.ensures.value in
    let fresh_is : length fresh ≡ fresh_before rest tree (length tree) = counted_fresh h ms l.stock tree is_tree fresh c.in_ok-numbered.ensures.fresh ∙ ap (λ rs. fresh_before rs tree (length tree)) rows in
    let size : length h ≡ length rest = sym (length-stock h ms l.stock) ∙ ap length rows in
    let all : c.len.result + c.len-2.result ≡ length rest + fresh_before rest tree (length tree) = omega (arith, c.len.ensures.len, count, fresh_is, size) in
    let fit : c.is_within.result ≡ fits (sweep (table_in p)) tree = c.is_within.ensures ∙ ap (λ n. not (nat_lt p.cap n)) all in
    let full : fits (table_in p) tree ≡ false = ap (λ (o : RowsObject). fits o.table tree) c.self.view_is ∙ c.requires.full in
    let e = c.in_ok-root.ensures in
    let new = c.grow.new.stock in
    let again : c.len-3.result ≡ length fresh = search rules in
    let more : c.len-3.result ≡ fresh_before (stock_rows h ms) tree (length tree) = again ∙ counted_fresh h ms l.stock tree is_tree fresh c.in_ok-numbered.ensures.fresh in
    let within : length rest + fresh_before rest tree (length tree) ≤ p.cap = not_more p.cap (length rest + fresh_before rest tree (length tree)) (sym fit ∙ c.if-not-is_within.false) in
    record {
      stock = e.stock;
      indexed = e.index;
      below = subst (λ (k : ℕ). All (λ number. number < p.next + k) new.numbers.items) (sym more) e.below;
      pinned = pins_kept ms new.numbers.items p.pins.items e.kept (subst (All (λ (pin : ℕ × ℕ). Contains ms pin.1)) c.deref.ensures.value l.pinned);
      within = omega (arith, e.count, within, size, again, more, fresh_is);
      fits = i.fits;
      trees = subst AreSmallRows (sym e.rows) (small_grown (stock_rows h ms) p.next tree (closed_stock h ms l.stock) (apart_stock h ms l.stock) (below_stock h ms l.stock p.next (among_below ns ms p.next i.below l.among)) q
          (subst AreSmallRows (sym rows) (small_swept (table_in p) (sound_stock g ns i.stock p.pins.items p.next p.cap i.below i.pinned i.within) i.trees)));
      small = still_small p.next c.len-3.result tree (subst (λ (o : RowsObject). o.table.next < 2 ^ 127) (sym c.self.view_is) c.requires.next) q.few (omega (arith, more, fresh_within (stock_rows h ms) tree (length tree)));
    }

pub returns-clause-added : goal.returns-clause-added
returns-clause-added c =
    let p = c.self.inside in
    let i = c.self.invariant in
    let g = p.stock.nodes in
    let ns = p.stock.numbers.items in
    let h = c.in_ok-left.left.nodes in
    let ms = c.in_ok-left.left.numbers.items in
    let l = c.in_ok-left.ensures in
    let tree = c.args.tree.now in
    let q = c.requires.tree in
    let is_tree : IsTreeGraph tree = record { graph = q.graph; labels = q.ground; canonical = q.canonical } in
    let fresh = c.in_ok-numbered.numbered.fresh.items in
    let count : c.len-2.result ≡ length fresh = search rules in
    let rest : List Row = (sweep (table_in p)).rows in
    let rows : stock_rows h ms ≡ rest =
    l.rows ∙ ap (λ ps. filter (λ (row : Row). is_met (record { rows = stock_rows g ns; pins = ps; next = 0; limit = 0 }) row.number) (stock_rows g ns)) c.deref.ensures.value in
    let fresh_is : length fresh ≡ fresh_before rest tree (length tree) = counted_fresh h ms l.stock tree is_tree fresh c.in_ok-numbered.ensures.fresh ∙ ap (λ rs. fresh_before rs tree (length tree)) rows in
    let size : length h ≡ length rest = sym (length-stock h ms l.stock) ∙ ap length rows in
    let all : c.len.result + c.len-2.result ≡ length rest + fresh_before rest tree (length tree) = omega (arith, c.len.ensures.len, count, fresh_is, size) in
    let fit : c.is_within.result ≡ fits (sweep (table_in p)) tree = c.is_within.ensures ∙ ap (λ n. not (nat_lt p.cap n)) all in
    let full : fits (table_in p) tree ≡ false = ap (λ (o : RowsObject). fits o.table tree) c.self.view_is ∙ c.requires.full in
    let e = c.in_ok-root.ensures in
    let new = c.grow.new.stock in
    let again : c.len-3.result ≡ length fresh = search rules in
    let more : c.len-3.result ≡ fresh_before (stock_rows h ms) tree (length tree) = again ∙ counted_fresh h ms l.stock tree is_tree fresh c.in_ok-numbered.ensures.fresh in
    let within : length rest + fresh_before rest tree (length tree) ≤ p.cap = not_more p.cap (length rest + fresh_before rest tree (length tree)) (sym fit ∙ c.if-not-is_within.false) in
    let as_root : ℕ → List Row → List (ℕ × ℕ) → ℕ → Adding = λ h rs ps n. root h (record { rows = rs; pins = ps; next = n; limit = p.cap }) in
    ap (λ (o : RowsObject). add o.table tree) (sym c.self.view_is) ∙ add_swept (table_in p) tree full (sym fit ∙ c.if-not-is_within.false)
    ∙ ap (λ rs. as_root (row_number rs p.next tree 0) (rs ++ fresh_rows rs p.next tree) p.pins.items (p.next + fresh_before rs tree (length tree))) (sym rows)
    ∙ ap (λ k. as_root k (stock_rows h ms ++ fresh_rows (stock_rows h ms) p.next tree) p.pins.items (p.next + fresh_before (stock_rows h ms) tree (length tree))) (sym e.root)
    ∙ ap (λ rs. as_root c.in_ok-root.root rs p.pins.items (p.next + fresh_before (stock_rows h ms) tree (length tree))) (sym e.rows)
    ∙ ap (λ n. as_root c.in_ok-root.root (stock_rows new.nodes new.numbers.items) p.pins.items (p.next + n)) (sym more)

pub returns-clause-root : goal.returns-clause-root
returns-clause-root c =
    let p = c.self.inside in
    let i = c.self.invariant in
    let g = p.stock.nodes in
    let ns = p.stock.numbers.items in
    let e = c.in_ok-root.ensures in
    let new = c.grow.new.stock in
    contains_stock new.nodes new.numbers.items e.stock c.in_ok-root.root e.root_in
