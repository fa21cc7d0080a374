use Rattle.std.proofs.Common.{length}
use Rattle.mars_refine.proofs.Splitting.{IsByNumbers}
use Rattle.mars_refine.proofs.marks.classes_by_label.Given as goal

abbrev pub invariant-loop-number : goal.invariant-loop-number
invariant-loop-number l = IsByNumbers l.chains-inside.keys.items (length l.graph) l.number l.classes
