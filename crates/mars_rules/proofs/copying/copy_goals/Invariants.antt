use Rattle.std.proofs.Common.{take}
use Rattle.mars_rules.specs.PairedLists.{AllPaired}
use Rattle.mars_rules.specs.CopyingInside.{IsCopiedGoal}
use Rattle.mars_rules.proofs.copying.copy_goals.Given as goal

-- so many goals were copied
abbrev pub invariant-loop-goal : goal.invariant-loop-goal
invariant-loop-goal l = AllPaired (IsCopiedGoal l.nodes) (take l.goal-index l.goals) l.body
