use Rattle.std.proofs.Common.{◌≡◌, ◌≤◌, ◌+◌, ◌++◌, length, take}
use Rattle.mars_tree.specs.Stored.{kid_count, starts_from}
use Rattle.mars_tree.proofs.graph.flat.push_starts.Given as goal

abbrev pub invariant-loop-k : goal.invariant-loop-k
invariant-loop-k l = record {
  items : l.into.items ≡ l.fn.into.items ++ starts_from l.start (take l.k l.labels);
  next : l.next ≡ l.start + kid_count (take l.k l.labels);
  count : l.into.len ≡ l.fn.into.len + l.k;
  room : l.fn.into.len + length l.labels ≤ l.into.cap;
}
