use Rattle.std.proofs.Common.{length}
use Rattle.mars_run.proofs.Backtracking.{KeepsChoices}
use Rattle.mars_run.proofs.searching.next_alternative.Given as goal

-- the choice points that are left have what those of before had
abbrev pub invariant-points : goal.invariant-points
invariant-points l = KeepsChoices l.rules.rules l.fn.memory l.fn.points l.memory l.points

abbrev pub decreases-points : goal.decreases-points
decreases-points l = length l.points
