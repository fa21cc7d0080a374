use Rattle.std.proofs.Common.{◌≡◌, ◌≤◌, length, map, take, vec_capacity}
use Rattle.mars_rows.specs.StockInside.{number_of_node}
use Rattle.mars_rows.proofs.marks.numbers_of.Given as goal

abbrev pub invariant-loop-place : goal.invariant-loop-place
invariant-loop-place l = record {
  items : l.all.items ≡ map (number_of_node l.numbers) (take l.place l.order);
  room : length l.order ≤ vec_capacity l.all;
}
