use Rattle.std.proofs.Common.{◌≡◌, ℕ, ◌<◌, List, Some, slice_get}
use Rattle.mars_tree.proofs.names.equality.agree.Given as goal

abbrev pub invariant-loop-place : goal.invariant-loop-place
invariant-loop-place l = (k : ℕ) (x y : List ℕ) → k < l.place → slice_get l.left k ≡ Some x → slice_get l.right k ≡ Some y → x ≡ y
