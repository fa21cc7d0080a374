use Rattle.std.proofs.Common.{◌≡◌, drop, length}
use Rattle.mars_refine.specs.Writes.{put_all}
use Rattle.mars_refine.proofs.writes.write_all.Given as goal

abbrev pub invariant-loop-index : goal.invariant-loop-index
invariant-loop-index l = record {
  items : put_all l.values.items (drop l.index l.places) l.value ≡ put_all l.initial.values.items l.places l.value;
  size : length l.values.items ≡ length l.initial.values.items;
  most : l.values.most ≡ l.initial.values.most;
}
