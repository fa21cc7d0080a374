use Rattle.std.proofs.Common.{◌≤◌, length, drop}
use Rattle.mars_memory.specs.ListsInside.{ArePushed, pendings_of}
use Rattle.mars_memory.proofs.lists.push_body.Given as goal

abbrev pub invariant-loop-place : goal.invariant-loop-place
invariant-loop-place l = (l.place ≤ length l.goals) × ArePushed l.fn.lists l.lists (pendings_of l.registers l.depth (drop l.place l.goals)) l.fn.rest l.list

abbrev pub decreases-loop-place : goal.decreases-loop-place
decreases-loop-place l = l.place
