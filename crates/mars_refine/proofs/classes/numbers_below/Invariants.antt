use Rattle.std.proofs.Common.{◌≡◌, ◌<◌, ◌≤◌, ℕ, length}
use Rattle.mars_refine.specs.ClassesInside.{at_place}
use Rattle.mars_refine.proofs.classes.numbers_below.Given as goal

abbrev pub invariant-loop-number : goal.invariant-loop-number
invariant-loop-number l = record {
  size : length l.all.items ≡ l.number;
  most : l.count ≤ l.all.most;
  are : (i : ℕ) → i < l.number → at_place l.all.items i ≡ i;
}
