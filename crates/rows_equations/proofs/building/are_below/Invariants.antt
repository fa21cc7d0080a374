use Rattle.std.proofs.Common.{◌≡◌, ◌<◌, ℕ, Some, slice_get}
use Rattle.rows_equations.proofs.building.are_below.Given as goal

abbrev pub invariant-loop-node : goal.invariant-loop-node
invariant-loop-node l = (k x : ℕ) → k < l.node-index → slice_get l.nodes k ≡ Some x → x < l.count
