use Rattle.std.proofs.Common.{take}
use Rattle.mars_unify.specs.MetInside.{IsIndex}
use Rattle.mars_unify.proofs.pairs.bits_of.Given as goal

abbrev pub invariant-loop-pair : goal.invariant-loop-pair
invariant-loop-pair l = IsIndex l.index (take l.pair-index l.pairs)
