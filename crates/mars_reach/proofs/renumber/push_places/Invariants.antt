use Rattle.std.proofs.Common.{◌≡◌, ◌++◌, map, take}
use Rattle.mars_reach.specs.Order.{place_in}
use Rattle.mars_reach.proofs.renumber.push_places.Given as goal

abbrev pub invariant-loop-number : goal.invariant-loop-number
invariant-loop-number l = l.into.items ≡ l.initial.into.items ++ map (place_in l.order) (take l.number-index l.numbers)
