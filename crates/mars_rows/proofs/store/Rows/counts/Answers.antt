use Rattle.std.proofs.Common.{length, ap, subst, sym, ◌∙◌}
use Rattle.mars_rows.specs.RowsObject.{RowsObject}
use Rattle.mars_rows.specs.Sound.{IsSound}
use Rattle.mars_rows.proofs.Holding.{sound_stock}
use Rattle.mars_rows.proofs.Stocked.{length-stock}
use Rattle.mars_rows.proofs.store.Rows.counts.Goals as goal

pub returns-clause-rows : goal.returns-clause-rows
returns-clause-rows c =
    let p = c.self.inside in
    c.len.ensures.len ∙ sym (length-stock p.stock.nodes p.stock.numbers.items c.self.invariant.stock) ∙ ap (λ (o : RowsObject). length o.table.rows) c.self.view_is

pub returns-clause-sound : goal.returns-clause-sound
returns-clause-sound c =
    let p = c.self.inside in
    let i = c.self.invariant in
    subst (λ (o : RowsObject). IsSound o.table) c.self.view_is (sound_stock p.stock.nodes p.stock.numbers.items i.stock p.pins.items p.next p.cap i.below i.pinned i.within)
