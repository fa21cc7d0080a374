use Rattle.std.proofs.Common.{◌≡◌, ◌≤◌, ◌+◌, ◌++◌, length, take}
use Rattle.mars_session.proofs.text.push_all.Given as goal

abbrev pub invariant-loop-byte : goal.invariant-loop-byte
invariant-loop-byte l = record {
  items : l.into.items ≡ l.fn.into.items ++ take l.byte-index l.more;
  count : l.into.len ≡ l.fn.into.len + l.byte-index;
  cap : l.into.cap ≡ l.fn.into.cap;
  room : l.fn.into.len + length l.more ≤ l.into.cap;
}
