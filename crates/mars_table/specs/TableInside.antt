-- Inside a table: rows and pins are those that its history leads to, and each pin keeps a place for its drop's entry.
use Rattle.std.specs.Prelude.{◌≡◌, ◌-◌, ◌≤◌, length}
use Rattle.mars_table.specs.declared.table.Table.TheInside.{Inside}
use Rattle.mars_table.specs.History.{Legal, after_history}
use Rattle.mars_table.specs.TableSeen.{TableSeen}

abbrev pub seen_of : Inside → TableSeen
seen_of p = record { cap = p.cap; history = p.history.items }

pub record IsKept (p : Inside) : Type 0 where
  pub legal : Legal p.cap p.history.items
  pub rows : p.rows.table ≡ after_history p.cap p.history.items
  -- room for the entries of as many drops as there are pins
  pub room : length p.rows.table.pins ≤ p.history.cap - p.history.len
