use Rattle.mars_store.specs.Marks.{AreMarks}
use Rattle.rows_equations.proofs.shapes.descend.Given as goal

abbrev pub invariant-loop-mark : goal.invariant-loop-mark
invariant-loop-mark l = AreMarks l.store l.marks.items

abbrev pub decreases-loop-mark : goal.decreases-loop-mark
decreases-loop-mark l = goal.left-loop-mark l
