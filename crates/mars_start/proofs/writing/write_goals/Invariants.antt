use Rattle.std.proofs.Common.{◌-◌, length, drop}
use Rattle.mars_start.specs.WritingInside.{AreGoalsWritten}
use Rattle.mars_start.proofs.writing.write_goals.Given as goal

-- so many of the last goals were written
abbrev pub invariant-loop-back : goal.invariant-loop-back
invariant-loop-back l = AreGoalsWritten l.fn.store l.store l.vars l.kept (drop (length l.goals - l.back) l.goals) l.lists l.list
