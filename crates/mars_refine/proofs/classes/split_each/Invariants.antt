use Rattle.std.proofs.Common.{take}
use Rattle.mars_refine.specs.ClassesInside.{IsPartedInside, parted_of, SplitsEach}
use Rattle.mars_refine.proofs.classes.split_each.Given as goal

abbrev pub invariant-loop-index : goal.invariant-loop-index
invariant-loop-index l = record {
  parted : IsPartedInside l.parts;
  done : SplitsEach (take l.index l.touched.items) (parted_of l.initial.parts) (parted_of l.parts);
}
