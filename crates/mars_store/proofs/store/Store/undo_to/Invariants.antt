use Rattle.std.proofs.Common.{◌≡◌, ◌≤◌, length, take}
use Rattle.mars_store.specs.LinksInside.{IsStored}
use Rattle.mars_store.proofs.store.Store.undo_to.Given as goal

-- the equations up to the mark stay
abbrev pub invariant-loop-self : goal.invariant-loop-self
invariant-loop-self l = record {
  stored : IsStored l.self-inside.nodes.nodes l.self-inside.nodes.links l.self-inside.trail.items;
  nodes : l.self-inside.nodes.nodes ≡ l.initial.self-inside.nodes.nodes;
  front : take l.mark.bound l.self-inside.trail.items ≡ take l.mark.bound l.initial.self-inside.trail.items;
  more : l.mark.bound ≤ length l.self-inside.trail.items;
}

abbrev pub decreases-loop-self : goal.decreases-loop-self
decreases-loop-self l = length l.self-inside.trail.items
