use Rattle.std.proofs.Common.{◌≡◌, ◌+◌, ℕ, Some, slice_get, vec_len}
use Rattle.mars_book.specs.PassSeen.{PassSeen, knowing}
use Rattle.mars_gate.specs.PassesInside.{pass_at}
use Rattle.mars_gate.proofs.passes.passes_of.Given as goal

abbrev pub invariant-loop : goal.invariant-loop
invariant-loop l = record {
  count : vec_len l.passes ≡ l.counter + 1;
  each : (k : ℕ) (p : PassSeen) → slice_get l.passes.items k ≡ Some p → p ≡ knowing l.fn.opening (pass_at l.fn.book.cap (l.counter + 1) k);
}
