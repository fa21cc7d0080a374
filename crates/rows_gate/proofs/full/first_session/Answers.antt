use Rattle.std.proofs.Common.{◌≡◌, ℕ, List, [], ap}
use Rattle.std.specs.Prelude.{Some, slice_get, false}
use Rattle.std.proofs.lemmas.Result.{IfOk-weaker}
use Rattle.mars_script.specs.declared.script.Script.{Script}
use Rattle.mars_script.specs.declared.words.Options.{Options}
use Rattle.mars_session.specs.SessionPoints.{part_of}
use Rattle.mars_session.specs.SessionSeen.{SessionSeen, started_session}
use Rattle.mars_replay.proofs.Starting.{formed_asks, item_at, rules_at, rule_read}
use Rattle.rows_gate.proofs.full.first_session.Goals as goal

pub returns-clause-number : goal.returns-clause-number
returns-clause-number c =
    let input = c.args.input.now in
    -- of the options a session has the steps of an ask alone
    let options : Options = record { budget = _; rows = 0; log = false } in
    let has = item_at input.sessions 0 c.requires.some in
    IfOk-weaker c.new.result
    (λ (s : SessionSeen). (script : Script) → slice_get input.sessions 0 ≡ Some script → s ≡ started_session (part_of input options 0 script))
    (λ (s : SessionSeen). s.part.who ≡ 0)
    (λ s from. ap (λ (t : SessionSeen). t.part.who) (from has.0 has.1))
    c.new.ensures

pub returns-clause-none : goal.returns-clause-none
returns-clause-none c =
    let input = c.args.input.now in
    -- of the options a session has the steps of an ask alone
    let options : Options = record { budget = _; rows = 0; log = false } in
    let has = item_at input.sessions 0 c.requires.some in
    IfOk-weaker c.new.result
    (λ (s : SessionSeen). (script : Script) → slice_get input.sessions 0 ≡ Some script → s ≡ started_session (part_of input options 0 script))
    (λ (s : SessionSeen). s.point.mine ≡ [])
    (λ s from. ap (λ (t : SessionSeen). t.point.mine) (from has.0 has.1))
    c.new.ensures

pub new-requires-clause-asks : goal.new-requires-clause-asks
new-requires-clause-asks c = λ script is. formed_asks c.args.input.now 0 script c.requires.formed is

pub new-requires-clause-rules : goal.new-requires-clause-rules
new-requires-clause-rules c = λ script is. rules_at c.args.input.now c.args.rules.now 0 c.index-rules-0.result script c.requires.rules (rule_read c.args.input.now c.args.rules.now 0 c.index-rules-0.result script c.requires.rules is c.index-rules-0.is) is
