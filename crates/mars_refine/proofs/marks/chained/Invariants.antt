use Rattle.std.proofs.Common.{◌≡◌, take}
use Rattle.mars_refine.proofs.marks.chained.Given as goal

abbrev pub invariant-loop-node : goal.invariant-loop-node
invariant-loop-node l = l.chains ≡ record { size = l.size; keys = take l.node l.numbers.items }
