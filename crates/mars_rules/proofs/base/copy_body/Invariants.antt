use Rattle.std.proofs.Common.{◌≡◌, take}
use Rattle.mars_rules.proofs.base.copy_body.Given as goal

-- so many goals were copied
abbrev pub invariant-loop-goal : goal.invariant-loop-goal
invariant-loop-goal l = l.copy ≡ take l.goal-index l.goals
