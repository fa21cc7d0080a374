use Rattle.std.proofs.Common.{take}
use Rattle.mars_first.specs.ComponentInside.{AreCounts}
use Rattle.mars_first.proofs.narrowing.counts_of.Given as goal

abbrev pub invariant-loop-row : goal.invariant-loop-row
invariant-loop-row l = AreCounts l.size (take l.row-index l.rows) l.counts.items
