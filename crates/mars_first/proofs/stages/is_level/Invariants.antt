use Rattle.std.proofs.Common.{◌≡◌, ℕ, ◌<◌, get_or}
use Rattle.mars_first.specs.PlacesInside.{number_at}
use Rattle.mars_first.proofs.stages.is_level.Given as goal

abbrev pub invariant-loop-node : goal.invariant-loop-node
invariant-loop-node l = (k : ℕ) → k < l.node-index → number_at l.places (get_or l.nodes k 0) ≡ l.first
