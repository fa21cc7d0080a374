use Rattle.std.proofs.Common.{◌≡◌, map, take}
use Rattle.std.specs.List.{filter}
use Rattle.mars_reach.specs.Order.{place_in}
use Rattle.mars_comp.specs.Key.{same_part}
use Rattle.mars_first.proofs.component.inner_places.Given as goal

abbrev pub invariant-loop-kid : goal.invariant-loop-kid
invariant-loop-kid l = l.places.items ≡ map (place_in l.starts) (filter (λ kid. same_part l.parts l.node kid) (take l.kid-index l.kid-items))
