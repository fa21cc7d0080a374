use Rattle.mars_minim.proofs.Quotients.{AreFirsts}
use Rattle.mars_minim.proofs.smallest.quotient.Given as goal

abbrev pub invariant-loop-class : goal.invariant-loop-class
invariant-loop-class l = AreFirsts l.graph l.classes.of l.class l.labels.items l.kids.items
