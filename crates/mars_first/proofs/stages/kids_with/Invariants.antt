use Rattle.std.proofs.Common.{take}
use Rattle.mars_first.specs.StagesInside.{AreKids}
use Rattle.mars_first.proofs.stages.kids_with.Given as goal

abbrev pub invariant-loop-node : goal.invariant-loop-node
invariant-loop-node l = AreKids l.places l.kid (take l.node-index l.nodes) l.kids.items
