use Rattle.std.proofs.Common.{◌≡◌, ◌+◌, ◌≤◌, ◌++◌, vec_capacity, vec_len}
use Rattle.std.specs.List.{range_with_len}
use Rattle.mars_rows.proofs.stock.push_next.Given as goal

abbrev pub invariant-loop-k : goal.invariant-loop-k
invariant-loop-k l = record {
  items : l.numbers.items ≡ l.fn.numbers.items ++ range_with_len l.next l.k;
  size : vec_len l.numbers ≡ vec_len l.fn.numbers + l.k;
  room : vec_len l.fn.numbers + l.count ≤ vec_capacity l.numbers;
}
