use Rattle.std.proofs.Common.{◌≡◌, take}
use Rattle.mars_run.proofs.copying.copy_goals.Given as goal

-- so many goals were copied
abbrev pub invariant-loop-goal : goal.invariant-loop-goal
invariant-loop-goal l = l.copy ≡ take l.goal-index l.goals
