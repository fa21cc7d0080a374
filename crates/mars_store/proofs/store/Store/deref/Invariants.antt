use Rattle.std.proofs.Common.{◌≡◌, ◌<◌, length}
use Rattle.mars_store.specs.System.{resolve, rank}
use Rattle.mars_store.proofs.store.Store.deref.Given as goal

-- the links lead from here to the end of the node's links
abbrev pub invariant-loop-last : goal.invariant-loop-last
invariant-loop-last l = record {
  inside : l.last < length l.self-inside.nodes.links;
  same : resolve l.self-inside.trail.items l.last ≡ resolve l.self-inside.trail.items l.fn.node;
}

abbrev pub decreases-loop-last : goal.decreases-loop-last
decreases-loop-last l = rank l.self-inside.nodes.nodes l.last
