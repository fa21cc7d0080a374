use Rattle.std.proofs.Common.{◌≡◌, map, take}
use Rattle.mars_session.specs.SessionPoints.{held_numbers}
use Rattle.mars_session.proofs.session.held_handles.Given as goal

abbrev pub invariant-loop-named : goal.invariant-loop-named
invariant-loop-named l = map (λ h. h.0) l.held.items ≡ held_numbers (take l.named-index l.names)
