use Rattle.std.proofs.Common.{take}
use Rattle.mars_rules.specs.LayingInside.{AreLaidGoals}
use Rattle.mars_rules.proofs.laying.lay_goals.Given as goal

-- so many goals were laid out
abbrev pub invariant-loop-goal : goal.invariant-loop-goal
invariant-loop-goal l = AreLaidGoals l.vars l.fn.nodes l.nodes (take l.goal-index l.goals) l.flat.items
