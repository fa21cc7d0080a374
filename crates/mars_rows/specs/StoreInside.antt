-- Inside rows with pins: the table object that their fields hold, and what holds of them.
use Rattle.std.specs.Prelude.{ℕ, ◌-◌, ◌+◌, ◌^◌, ◌<◌, ◌≤◌, List, length, All, Contains}
use Rattle.mars_tree.specs.Graph.{Node}
use Rattle.mars_canon.specs.Tree.{IsTree}
use Rattle.mars_rows.specs.declared.store.Rows.TheInside.{Inside}
use Rattle.mars_rows.specs.IndexInside.{IsRowIndex}
use Rattle.mars_rows.specs.Object.{TableObject}
use Rattle.mars_rows.specs.Rows.{Row, HasRow, IsRowOf}
use Rattle.mars_rows.specs.RowsObject.{RowsObject}
use Rattle.mars_rows.specs.StockInside.{stock_rows, IsStock}

abbrev pub table_in : Inside → TableObject
table_in p = record { rows = stock_rows p.stock.nodes p.stock.numbers.items; pins = p.pins.items; next = p.next; limit = p.cap }

abbrev pub rows_object_of : Inside → RowsObject
rows_object_of p = record { table = table_in p; room = p.pins.cap - p.pins.len }

-- the row came in with a tree, of which it is a node: so it has no more distinct subtrees than a tree may have
pub record IsSmallRow (rows : List Row) (h : ℕ) : Type 0 where
  pub graph : List Node
  pub node : ℕ
  pub is_tree : IsTree graph
  pub within : node < length graph
  pub same : IsRowOf rows h graph node

-- each row came in with a tree
abbrev pub AreSmallRows : List Row → Type 0
AreSmallRows rows = (h : ℕ) → HasRow rows h → IsSmallRow rows h

-- rows are a stock of numbers below the next one with an index, as many as the limit allows, and pins name rows
pub record IsHeld (p : Inside) : Type 0 where
  pub stock : IsStock p.stock.nodes p.stock.numbers.items
  pub indexed : IsRowIndex (stock_rows p.stock.nodes p.stock.numbers.items) p.stock.index.entries
  pub below : All (λ number. number < p.next) p.stock.numbers.items
  pub pinned : All (λ pin. Contains p.stock.numbers.items pin.1) p.pins.items
  pub within : length p.stock.nodes ≤ p.cap
  pub fits : p.cap < 2 ^ 64
  pub trees : AreSmallRows (stock_rows p.stock.nodes p.stock.numbers.items)
  -- a tree's numbers can be counted up from the next one
  pub small : p.next < 2 ^ 127 + 2 ^ 64
