use Rattle.std.proofs.Common.{◌≡◌, ◌++◌, take}
use Rattle.mars_canon.proofs.tree.push_kids.Given as goal

abbrev pub invariant-loop-kid : goal.invariant-loop-kid
invariant-loop-kid l = l.into.items ≡ l.initial.into.items ++ take l.kid-index l.kids
