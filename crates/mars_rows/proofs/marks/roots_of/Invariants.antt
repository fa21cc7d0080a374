use Rattle.std.proofs.Common.{◌≡◌, ◌≤◌, ◌<◌, length, map, take, All, vec_capacity}
use Rattle.mars_rows.specs.StockInside.{number_of_node}
use Rattle.mars_rows.proofs.marks.roots_of.Given as goal

abbrev pub invariant-loop-pin : goal.invariant-loop-pin
invariant-loop-pin l = record {
  are : map (number_of_node l.numbers) l.roots.items ≡ map (λ pin. pin.1) (take l.pin-index l.pins);
  within : All (λ root. root < length l.numbers) l.roots.items;
  room : length l.pins ≤ vec_capacity l.roots;
}
