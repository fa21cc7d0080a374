use Rattle.std.proofs.Common.{◌≡◌, ℕ, ◌<◌, length, take, nat_eq, slice_index_or, false}
use Rattle.std.specs.List.{list_any}
use Rattle.mars_rows.proofs.marks.marks.Given as goal

abbrev pub invariant-loop-place : goal.invariant-loop-place
invariant-loop-place l = record {
  size : length l.marks.items ≡ l.count;
  each : (n : ℕ) → n < l.count → slice_index_or l.marks.items n false ≡ list_any (nat_eq n) (take l.place l.order);
}
