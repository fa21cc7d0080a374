use Rattle.std.proofs.Common.{ℕ, List, ◌+◌, ◌*◌}
use Rattle.mars_store.specs.System.{Grows}
use Rattle.mars_matching.specs.StepsInside.{AreOpened}
use Rattle.mars_matching.proofs.matching.+opening.Given as goal

-- the kids below this place have nodes
abbrev pub invariant-open_kids-loop-at : goal.invariant-open_kids-loop-at
invariant-open_kids-loop-at l = record {
  grows : Grows l.fn.store l.store;
  kids : (kids : List ℕ) × AreOpened l.fn.rule.nodes l.fn.store l.store l.fn.registers l.registers l.fn.place kids l.at;
}

abbrev pub decreases-open_kid : goal.decreases-open_kid
decreases-open_kid l = 3 * l.depth

abbrev pub decreases-open_kids : goal.decreases-open_kids
decreases-open_kids l = 3 * l.depth + 1

abbrev pub decreases-make : goal.decreases-make
decreases-make l = 3 * l.depth + 2
