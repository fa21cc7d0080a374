use Rattle.std.proofs.Common.{◌≤◌, ℕ, length, drop}
use Rattle.mars_watch.specs.Lined.{AreAscending}
use Rattle.rows_equations.proofs.changes.are_ascending.Given as goal

abbrev pub invariant-loop-left : goal.invariant-loop-left
invariant-loop-left l = record {
  left_in : l.left ≤ length l.places;
  bound_in : l.bound ≤ l.size;
  ascending : (from : ℕ) → from ≤ l.bound → AreAscending from (drop l.left l.places) l.size;
}

abbrev pub decreases-loop-left : goal.decreases-loop-left
decreases-loop-left l = l.left
