use Rattle.std.proofs.Common.{◌≡◌, ℕ, ◌<◌, ◌≤◌, Some, slice_get}
use Rattle.mars_rules.specs.PlacesInside.{IsAllowedAt}
use Rattle.mars_rules.proofs.places.first_allowed.Given as goal

-- no place before this one will do
abbrev pub invariant-loop-at : goal.invariant-loop-at
invariant-loop-at l = (k place : ℕ) → k < l.at → slice_get l.places k ≡ Some place → l.from ≤ place → IsAllowedAt l.keys l.argument place → ⊥
