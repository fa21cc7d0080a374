use Rattle.std.proofs.Common.{◌≡◌, filter, slice_index_or, false}
use Rattle.std.specs.List.{range_with_len}
use Rattle.mars_rows.proofs.marks.marked_nodes.Given as goal

abbrev pub invariant-loop-node : goal.invariant-loop-node
invariant-loop-node l = l.order ≡ filter (λ n. slice_index_or l.marks n false) (range_with_len 0 l.node)
