use Rattle.std.proofs.Common.{◌≡◌, ◌-◌, length}
use Rattle.mars_refine.specs.Classes.{AreFree}
use Rattle.mars_refine.specs.Edges.{IsWidth}
use Rattle.mars_refine.specs.Refine.{IsRefining}
use Rattle.mars_refine.proofs.refine.classes_by_tree.Given as goal

abbrev pub invariant-loop-next : goal.invariant-loop-next
invariant-loop-next l = record {
  size : length l.classes.of ≡ length l.graph;
  free : AreFree l.classes;
  refining : IsRefining l.graph l.classes.of l.next;
  places : IsWidth l.graph l.found.by_place.size;
}

abbrev pub decreases-loop-next : goal.decreases-loop-next
decreases-loop-next l = length l.graph - l.next
