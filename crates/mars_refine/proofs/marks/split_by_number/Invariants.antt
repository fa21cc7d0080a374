use Rattle.mars_refine.proofs.Splitting.{IsMarkedFrom}
use Rattle.mars_refine.proofs.marks.split_by_number.Given as goal

abbrev pub invariant-loop-count : goal.invariant-loop-count
invariant-loop-count l = IsMarkedFrom l.chains.keys l.number l.count l.initial.classes l.classes

abbrev pub decreases-loop-count : goal.decreases-loop-count
decreases-loop-count l = l.count
