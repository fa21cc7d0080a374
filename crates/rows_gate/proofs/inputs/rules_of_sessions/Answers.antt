use Rattle.std.proofs.Common.{All, sym, subst, List}
use Rattle.mars_term.specs.Clauses.{IsRule}
use Rattle.mars_term.specs.declared.clause.Rule.{Rule}
use Rattle.mars_script.specs.declared.script.Script.{Script}
use Rattle.mars_scripts.specs.WellFormed.{IsWellFormedScript}
use Rattle.rows_gate.proofs.inputs.rules_of_sessions.Goals as goal

pub join-requires-clause-local : goal.join-requires-clause-local
join-requires-clause-local c =
    let all = subst (λ (scripts : List Script). All IsWellFormedScript scripts) (sym c.as_slice-script-items.ensures) c.requires.sessions in
    let formed = all c.loop-script.script-index c.script-item.result c.loop-script-test.true in
    subst (λ (rules : List Rule). All IsRule rules) (sym c.as_slice-own.ensures) (subst (λ (script : Script). All IsRule script.rules) (sym c.script-item.is) formed.rules)
