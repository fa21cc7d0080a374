use Rattle.std.proofs.Common.{◌≡◌, ℕ, ◌<◌, ◌&&◌, nat_eq, slice_get, Some, false}
use Rattle.mars_rows.proofs.store.has_pin.Given as goal

abbrev pub invariant-loop-place : goal.invariant-loop-place
invariant-loop-place l = (k : ℕ) (pin : ℕ × ℕ) → k < l.place → slice_get l.pins k ≡ Some pin → (nat_eq pin.0 l.who && nat_eq pin.1 l.id) ≡ false
