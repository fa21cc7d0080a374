use Rattle.std.proofs.Common.{[]}
use Rattle.mars_first.specs.ComponentInside.{AreCounts}
use Rattle.mars_first.proofs.narrowing.no_counts.Given as goal

abbrev pub invariant-loop-number : goal.invariant-loop-number
invariant-loop-number l = AreCounts l.number [] l.counts.items
