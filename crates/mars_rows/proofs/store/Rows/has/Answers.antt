use Rattle.std.proofs.Common.{ℕ, List, Contains, subst, sym}
use Rattle.mars_rows.specs.Rows.{HasRow}
use Rattle.mars_rows.specs.RowsObject.{RowsObject}
use Rattle.mars_rows.specs.StoreInside.{rows_object_of}
use Rattle.mars_rows.proofs.Stocked.{contains_stock, stock_contains}
use Rattle.mars_rows.proofs.store.Rows.has.Goals as goal

pub returns : goal.returns
returns c =
    let p = c.self.inside in
    let g = p.stock.nodes in
    let ns = p.stock.numbers.items in
    let stock = c.self.invariant.stock in (
      λ yes. subst (λ (o : RowsObject). HasRow o.table.rows c.args.id) c.self.view_is
          (contains_stock g ns stock c.args.id (subst (λ (ms : List ℕ). Contains ms c.args.id) c.deref.ensures.value (c.is_among.ensures.0 yes))),
      λ has.
          let has_in : HasRow (rows_object_of p).table.rows c.args.id = subst (λ (o : RowsObject). HasRow o.table.rows c.args.id) (sym c.self.view_is) has in
          c.is_among.ensures.1 (subst (λ (ms : List ℕ). Contains ms c.args.id) (sym c.deref.ensures.value) (stock_contains g ns stock c.args.id has_in)),
    )
