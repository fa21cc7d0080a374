use Rattle.std.proofs.Common.{◌≡◌, take}
use Rattle.mars_reach.specs.Order.{met_after}
use Rattle.mars_reach.proofs.order.Order.meet_all.Given as goal

abbrev pub invariant-loop-number : goal.invariant-loop-number
invariant-loop-number l = l.self ≡ met_after l.initial.self (take l.number-index l.numbers)
