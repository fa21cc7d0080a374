use Rattle.std.proofs.Common.{◌≡◌, take}
use Rattle.mars_first.proofs.narrowing.nodes_of.Given as goal

abbrev pub invariant-loop-place : goal.invariant-loop-place
invariant-loop-place l = l.nodes.items ≡ take l.place l.order
