use Rattle.std.proofs.Common.{◌≡◌, length, take}
use Rattle.std.specs.List.{range_with_len}
use Rattle.mars_store.specs.System.{Grows}
use Rattle.mars_rules.specs.CopyingInside.{shifted, with_nodes}
use Rattle.mars_rules.proofs.copying.copy_nodes.Given as goal

-- the nodes before this place were appended
abbrev pub invariant-loop-place : goal.invariant-loop-place
invariant-loop-place l = record {
  grows : Grows l.fn.store l.store;
  copies : l.copies.items ≡ range_with_len (length l.fn.store.nodes) l.place;
  store : l.store ≡ with_nodes l.fn.store (shifted (length l.fn.store.nodes) (take l.place l.nodes));
}
