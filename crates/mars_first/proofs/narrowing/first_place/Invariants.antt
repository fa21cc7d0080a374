use Rattle.std.proofs.Common.{length}
use Rattle.mars_first.specs.ComponentInside.{ComesFrom}
use Rattle.mars_first.proofs.narrowing.first_place.Given as goal

abbrev pub invariant-narrowing : goal.invariant-narrowing
invariant-narrowing l = ComesFrom l.component l.initial.candidates.items l.candidates.items

abbrev pub decreases-narrowing : goal.decreases-narrowing
decreases-narrowing l = length l.candidates.items
