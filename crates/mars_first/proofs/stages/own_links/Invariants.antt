use Rattle.mars_first.specs.StagesInside.{AreOwn}
use Rattle.mars_first.proofs.stages.own_links.Given as goal

abbrev pub invariant-loop-place : goal.invariant-loop-place
invariant-loop-place l = AreOwn l.place l.links.items
