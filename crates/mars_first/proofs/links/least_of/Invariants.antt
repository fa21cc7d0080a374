use Rattle.std.proofs.Common.{ℕ, ◌<◌, ◌≤◌, get_or, Contains}
use Rattle.mars_first.proofs.links.least_of.Given as goal

abbrev pub invariant-loop-head : goal.invariant-loop-head
invariant-loop-head l = record {
  least : (k : ℕ) → k < l.head-index → l.least ≤ get_or l.heads k 0;
  there : Contains l.heads l.least;
}
