use Rattle.std.proofs.Common.{◌≤◌, length, drop}
use Rattle.mars_memory.specs.ListsInside.{ArePushed, node_calls}
use Rattle.mars_memory.proofs.lists.push_calls.Given as goal

abbrev pub invariant-loop-place : goal.invariant-loop-place
invariant-loop-place l = (l.place ≤ length l.nodes) × ArePushed l.fn.lists l.lists (node_calls (drop l.place l.nodes)) l.fn.rest l.list

abbrev pub decreases-loop-place : goal.decreases-loop-place
decreases-loop-place l = l.place
