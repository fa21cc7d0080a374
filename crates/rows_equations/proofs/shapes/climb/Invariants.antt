use Rattle.std.proofs.Common.{◌<◌, length}
use Rattle.mars_store.specs.Marks.{AreMarks}
use Rattle.rows_equations.proofs.shapes.climb.Given as goal

abbrev pub invariant-loop : goal.invariant-loop
invariant-loop l = record {
  var_in : l.var < length l.store.nodes;
  end_in : l.end < length l.store.nodes;
  marks : AreMarks l.store l.marks.items;
}
