use Rattle.std.proofs.Common.{◌≡◌, ◌≤◌, length}
use Rattle.indexmap.specs.IndexMap.{spare}
use Rattle.mars_comp.specs.declared.items.Key.{Key}
use Rattle.mars_rows.specs.IndexInside.{rows_under, put}
use Rattle.mars_rows.proofs.index.put_entries.Given as goal

abbrev pub invariant-loop-key : goal.invariant-loop-key
invariant-loop-key l = record {
  leads : (key : Key) → put l.rest.items (rows_under l.index.entries) key ≡ put l.fn.entries.items (rows_under l.fn.index.entries) key;
  room : length l.rest.items ≤ spare l.index;
}

abbrev pub decreases-loop-key : goal.decreases-loop-key
decreases-loop-key l = length l.rest.items
