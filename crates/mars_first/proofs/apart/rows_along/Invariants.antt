use Rattle.std.proofs.Common.{◌<◌, length}
use Rattle.mars_first.specs.StagesInside.{AreTraced}
use Rattle.mars_first.proofs.apart.rows_along.Given as goal

abbrev pub invariant-loop-at : goal.invariant-loop-at
invariant-loop-at l = record {
  within : l.at < length l.search.stages.items;
  traced : AreTraced l.places l.search.stages.items l.search.classes.items l.last l.at l.rows.items;
}

abbrev pub decreases-loop-at : goal.decreases-loop-at
decreases-loop-at l = l.at
