use Rattle.std.proofs.Common.{◌≡◌, ◌<◌, ℕ, Some, slice_get}
use Rattle.rows_equations.proofs.answers.are_pairs_below.Given as goal

abbrev pub invariant-loop-pair : goal.invariant-loop-pair
invariant-loop-pair l = (k : ℕ) (p : ℕ × ℕ) → k < l.pair-index → slice_get l.pairs k ≡ Some p → (p.0 < l.count) × (p.1 < l.count)
