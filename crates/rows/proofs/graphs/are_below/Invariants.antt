use Rattle.std.proofs.Common.{◌≡◌, ◌<◌, ℕ, Some, slice_get}
use Rattle.rows.proofs.graphs.are_below.Given as goal

abbrev pub invariant-loop-number : goal.invariant-loop-number
invariant-loop-number l = (k x : ℕ) → k < l.number-index → slice_get l.numbers k ≡ Some x → x < l.count
