use Rattle.std.proofs.Common.{◌≡◌, map, take, slice_index}
use Rattle.mars_tree.specs.Graph.{kids_of}
use Rattle.mars_start.proofs.loading.push_kids.Given as goal

-- so many kids have their nodes
abbrev pub invariant-loop-place : goal.invariant-loop-place
invariant-loop-place l = l.kids.items ≡ map (slice_index l.nodes) (take l.place (kids_of l.tree l.node))
