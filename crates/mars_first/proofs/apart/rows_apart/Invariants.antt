use Rattle.mars_first.specs.StagesInside.{IsSearchOf, IsRooted, work_of}
use Rattle.mars_first.proofs.apart.rows_apart.Given as goal

abbrev pub invariant-stages : goal.invariant-stages
invariant-stages l = record {
  is : IsSearchOf l.places l.search;
  root : IsRooted l.candidates l.search;
}

abbrev pub decreases-stages : goal.decreases-stages
decreases-stages l = work_of l.places l.search
