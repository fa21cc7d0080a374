use Rattle.mars_refine.proofs.Splitting.{IsMarkedAt}
use Rattle.mars_refine.proofs.refine.split_by_place.Given as goal

abbrev pub invariant-loop-count : goal.invariant-loop-count
invariant-loop-count l = IsMarkedAt l.found.edges.items l.found.by_place.keys l.place l.count l.initial.classes l.classes

abbrev pub decreases-loop-count : goal.decreases-loop-count
decreases-loop-count l = l.count
