use Rattle.std.proofs.Common.{◌≡◌, length, map}
use Rattle.std.specs.List.{range_with_len}
use Rattle.mars_rows.specs.FreshInside.{fresh_nodes}
use Rattle.mars_rows.specs.Object.{row_number}
use Rattle.mars_rows.specs.RowsInside.{rows_of}
use Rattle.mars_rows.proofs.growth.places_of.Given as goal

abbrev pub invariant-loop-node : goal.invariant-loop-node
invariant-loop-node l = record {
  numbers : l.numbers.items ≡ map (row_number (rows_of l.stock.nodes) (length l.stock.nodes) l.tree) (range_with_len 0 l.node);
  fresh : l.fresh.items ≡ fresh_nodes (rows_of l.stock.nodes) l.tree l.node;
}
