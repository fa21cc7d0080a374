use Rattle.std.proofs.Common.{◌≡◌}
use Rattle.mars_session.specs.DoorEvents.{IsAtDoor}
use Rattle.rows_gate.proofs.full.run_over.Given as goal

-- the session is at its door
abbrev pub invariant-loop : goal.invariant-loop
invariant-loop g l = (g.D.Door.who l.door ≡ l.session.part.who) × IsAtDoor l.session (g.D.Door.mine l.door)
