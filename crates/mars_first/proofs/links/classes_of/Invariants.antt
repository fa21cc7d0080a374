use Rattle.std.proofs.Common.{◌≡◌, length, take}
use Rattle.mars_first.specs.LinksInside.{AreKeptLinks, AreClasses, AreRoots}
use Rattle.mars_first.proofs.links.classes_of.Given as goal

abbrev pub invariant-loop-node : goal.invariant-loop-node
invariant-loop-node l = record {
  kept : AreKeptLinks l.initial.links.items l.links.items;
  marks : length l.marks.items ≡ length l.initial.marks.items;
  classes : AreClasses l.initial.links.items (take l.node-index l.nodes) l.heads.items l.slots.items;
  roots : AreRoots l.links.items l.heads.items;
}
