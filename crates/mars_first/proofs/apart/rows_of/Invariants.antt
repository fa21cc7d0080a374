use Rattle.std.proofs.Common.{◌≡◌, map, take}
use Rattle.mars_first.specs.PlacesInside.{number_at}
use Rattle.mars_first.proofs.apart.rows_of.Given as goal

abbrev pub invariant-loop-node : goal.invariant-loop-node
invariant-loop-node l = l.rows.items ≡ map (number_at l.places) (take l.node-index l.nodes)
