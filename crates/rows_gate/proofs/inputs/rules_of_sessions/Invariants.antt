use Rattle.std.proofs.Common.{◌≡◌, map, take}
use Rattle.mars_session.specs.SessionPoints.{session_rules}
use Rattle.rows_gate.proofs.inputs.rules_of_sessions.Given as goal

-- the rules of the sessions so far
abbrev pub invariant-loop-script : goal.invariant-loop-script
invariant-loop-script l = l.rules.items ≡ map (session_rules l.input) (take l.script-index l.script-items)
