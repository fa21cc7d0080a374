use Rattle.std.proofs.Common.{◌<◌, ℕ, Contains, get_or, length}
use Rattle.mars_first.specs.ComponentInside.{Precedes}
use Rattle.mars_first.proofs.narrowing.rarest.Given as goal

abbrev pub invariant-loop-row : goal.invariant-loop-row
invariant-loop-row l = record {
  there : Contains l.rows l.best;
  within : l.best < length l.counts;
  rarest : (k : ℕ) → k < l.row-index → Precedes l.keys.keys l.counts l.best (get_or l.rows k 0);
}
