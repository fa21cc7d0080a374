use Rattle.std.proofs.Common.{◌≡◌, ◌≤◌, ◌+◌, ◌++◌, length, map, take}
use Rattle.mars_tree.proofs.numbers.push_kids.Given as goal

abbrev pub invariant-loop-kid : goal.invariant-loop-kid
invariant-loop-kid g l = record {
  items : l.into.items ≡ l.fn.into.items ++ map g.K.NodeNumber.number_of (take l.kid-index l.kids);
  count : l.into.len ≡ l.fn.into.len + l.kid-index;
  room : l.fn.into.len + length l.kids ≤ l.into.cap;
}
