use Rattle.std.proofs.Common.{◌≡◌, ◌≤◌, ◌+◌, ◌++◌, length, map, take}
use Rattle.mars_store.specs.System.{node_at}
use Rattle.mars_store.proofs.nodes.push_each.Given as goal

abbrev pub invariant-loop-place : goal.invariant-loop-place
invariant-loop-place l = record {
  items : l.into.items ≡ l.fn.into.items ++ map (node_at l.nodes) (take l.place-index l.places);
  count : l.into.len ≡ l.fn.into.len + l.place-index;
  room : l.fn.into.len + length l.places ≤ l.into.cap;
}
