use Rattle.mars_rows.specs.IndexInside.{IsLookedUp}
use Rattle.mars_rows.specs.StockInside.{stock_rows}
use Rattle.mars_rows.proofs.index.look_up.Given as goal

abbrev pub invariant-loop-place : goal.invariant-loop-place
invariant-loop-place l = IsLookedUp (stock_rows l.stock.nodes l.stock.numbers.items) l.next l.tree l.parts l.heads l.place l.numbers.items l.missed.items
