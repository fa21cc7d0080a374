use Rattle.std.proofs.Common.{◌≡◌, map, take, slice_index_or}
use Rattle.mars_first.proofs.apart.rows_before.Given as goal

abbrev pub invariant-loop-slot : goal.invariant-loop-slot
invariant-loop-slot l = l.nearer.items ≡ map (λ slot. slice_index_or l.rows slot 0) (take l.slot-index l.slots)
