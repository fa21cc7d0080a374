use Rattle.std.proofs.Common.{◌≡◌, ◌<◌, ℕ, None, Some, slice_get}
use Rattle.mars_tree.specs.Graph.{label_of}
use Rattle.mars_reach.proofs.free.has_free.Given as goal

abbrev pub invariant-loop-place : goal.invariant-loop-place
invariant-loop-place l = (j n : ℕ) → j < l.place → slice_get l.nodes j ≡ Some n → label_of l.graph n ≡ None → ⊥
