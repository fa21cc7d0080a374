use Rattle.mars_first.proofs.Linking.{AreLinked}
use Rattle.mars_first.proofs.links.join.Given as goal

abbrev pub invariant-loop-head : goal.invariant-loop-head
invariant-loop-head l = AreLinked l.initial.links.items l.heads l.head-index l.least l.links.items
