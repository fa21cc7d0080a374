use Rattle.mars_store.proofs.CallerLemmas.{marks-pop}
use Rattle.rows_equations.proofs.shapes.descend.Goals as goal

pub loop-mark-preserved-then-is_last_free : goal.loop-mark-preserved-then-is_last_free
loop-mark-preserved-then-is_last_free c =
    rw c.undo_to.ensures (marks-pop c.loop-mark.store c.loop-mark.marks.items c.pop.new.self.items c.in-Some.mark c.loop-mark.invariant c.in-Some.ensures.items).1

pub loop-mark-preserved : goal.loop-mark-preserved
loop-mark-preserved c =
    rw c.undo_to.ensures (marks-pop c.loop-mark.store c.loop-mark.marks.items c.pop.new.self.items c.in-Some.mark c.loop-mark.invariant c.in-Some.ensures.items).1
