use Rattle.std.proofs.Common.{◌≡◌, ◌≤◌, ◌+◌, ◌++◌, length, take}
use Rattle.mars_store.proofs.nodes.push_all.Given as goal

abbrev pub invariant-loop-kid : goal.invariant-loop-kid
invariant-loop-kid l = record {
  items : l.into.items ≡ l.fn.into.items ++ take l.kid-index l.kids;
  count : l.into.len ≡ l.fn.into.len + l.kid-index;
  room : l.fn.into.len + length l.kids ≤ l.into.cap;
}
