use Rattle.std.proofs.Common.{◌≡◌, take}
use Rattle.mars_frozen.specs.FrozenInside.{goals_of}
use Rattle.mars_frozen.proofs.waking.goals_at.Given as goal

abbrev pub invariant-loop-place : goal.invariant-loop-place
invariant-loop-place l = l.goals.items ≡ goals_of l.pairs (take l.place-index l.places)
