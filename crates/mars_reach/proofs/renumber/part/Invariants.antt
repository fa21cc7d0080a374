use Rattle.std.proofs.Common.{take}
use Rattle.mars_reach.specs.Order.{place_in}
use Rattle.mars_reach.proofs.Flat.{AreLaid}
use Rattle.mars_reach.proofs.renumber.part.Given as goal

abbrev pub invariant-loop-place : goal.invariant-loop-place
invariant-loop-place l = AreLaid l.graph (place_in l.order) (take l.place l.order) l.labels.items l.kids.items
