use Rattle.std.proofs.Common.{ℕ, ◌≤◌, ◌<◌, length, get_or, Contains}
use Rattle.mars_frozen.proofs.waking.add_unfiled.Given as goal

-- the numbers from the place on were added
abbrev pub invariant-loop-place : goal.invariant-loop-place
invariant-loop-place l = record {
  within : l.place ≤ length l.numbers;
  kept : (number : ℕ) → Contains l.fn.touched.items number → Contains l.touched.items number;
  added : (place : ℕ) → l.place ≤ place → place < length l.numbers → Contains l.touched.items (get_or l.numbers place 0);
}

abbrev pub decreases-loop-place : goal.decreases-loop-place
decreases-loop-place l = l.place
