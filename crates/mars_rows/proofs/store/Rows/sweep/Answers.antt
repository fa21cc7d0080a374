use Rattle.std.proofs.Common.{◌≡◌, ℕ, ◌-◌, List, length, filter, All, Contains, subst, sym, ap, ◌∙◌, arith}
use Rattle.mars_rows.specs.Rows.{Row}
use Rattle.mars_rows.specs.Object.{sweep, is_met}
use Rattle.mars_rows.specs.RowsObject.{RowsObject}
use Rattle.mars_rows.specs.StockInside.{stock_rows}
use Rattle.mars_rows.specs.StoreInside.{AreSmallRows, table_in}
use Rattle.mars_rows.proofs.Holding.{among_below, sound_stock}
use Rattle.mars_rows.proofs.SmallRows.{small_swept}
use Rattle.mars_rows.proofs.Stocked.{length-stock}
use Rattle.mars_rows.specs.Object.{swept as swept_count}
use Rattle.mars_rows.proofs.store.Rows.sweep.Goals as goal

pub invariant_of-self : goal.invariant_of-self
invariant_of-self c =
    let p = c.self.inside in
    let i = c.self.invariant in
    let g = p.stock.nodes in
    let ns = p.stock.numbers.items in
    let h = c.in_ok-left.left.nodes in
    let ms = c.in_ok-left.left.numbers.items in
    let l = c.in_ok-left.ensures in
    let rows : stock_rows h ms ≡ (sweep (table_in p)).rows =
    l.rows ∙ ap (λ ps. filter (λ (row : Row). is_met (record { rows = stock_rows g ns; pins = ps; next = 0; limit = 0 }) row.number) (stock_rows g ns)) c.deref.ensures.value in
    record {
      stock = l.stock;
      indexed = l.index;
      below = among_below ns ms p.next i.below l.among;
      pinned = subst (All (λ (pin : ℕ × ℕ). Contains ms pin.1)) c.deref.ensures.value l.pinned;
      within = omega (arith, l.fewer, i.within);
      fits = i.fits;
      trees = subst AreSmallRows (sym rows) (small_swept (table_in p) (sound_stock g ns i.stock p.pins.items p.next p.cap i.below i.pinned i.within) i.trees);
      small = i.small;
    }

pub returns-clause-count : goal.returns-clause-count
returns-clause-count c =
    let p = c.self.inside in
    let i = c.self.invariant in
    let g = p.stock.nodes in
    let ns = p.stock.numbers.items in
    let h = c.in_ok-left.left.nodes in
    let ms = c.in_ok-left.left.numbers.items in
    let l = c.in_ok-left.ensures in
    let rest : List Row = (sweep (table_in p)).rows in
    let rows : stock_rows h ms ≡ rest =
    l.rows ∙ ap (λ ps. filter (λ (row : Row). is_met (record { rows = stock_rows g ns; pins = ps; next = 0; limit = 0 }) row.number) (stock_rows g ns)) c.deref.ensures.value in
    let size : length h ≡ length rest = sym (length-stock h ms l.stock) ∙ ap length rows in
    let count : c.len.result - c.len-2.result ≡ length (stock_rows g ns) - length rest = omega (arith, c.len.ensures.len, c.len-2.ensures.len, size, length-stock g ns i.stock, l.fewer) in
    count ∙ ap (λ (o : RowsObject). swept_count o.table) c.self.view_is
