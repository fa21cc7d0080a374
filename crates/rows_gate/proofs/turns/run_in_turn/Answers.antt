use Rattle.std.proofs.Common.{◌∙◌, ap, length}
use Rattle.std.proofs.lemmas.List.{length-map}
use Rattle.std.specs.Prelude.{false}
use Rattle.mars_script.specs.declared.words.Options.{Options}
use Rattle.mars_session.specs.SessionPoints.{session_parts}
use Rattle.mars_session.specs.SessionSeen.{started_session}
use Rattle.mars_replay.specs.WorldSeen.{WorldSeen}
use Rattle.mars_replay.proofs.Starting.{parts_count}
use Rattle.mars_replay.proofs.SoundWorlds.{event_count}
use Rattle.rows_gate.proofs.turns.run_in_turn.Goals.{then-who-len, else-who-len}
use Rattle.rows_gate.proofs.turns.run_in_turn.Goals as goal

pub loop-who-init : goal.loop-who-init
loop-who-init g c =
    -- of the options the sessions have the steps of an ask alone
    let options : Options = record { budget = _; rows = 0; log = false } in
    ap (λ (w : WorldSeen). length w.sessions) c.in_ok-world.ensures
    ∙ length-map (session_parts c.args.input.now options) started_session
    ∙ parts_count c.args.input.now options 0 c.args.input.now.sessions

pub loop-who-preserved : goal.loop-who-preserved
loop-who-preserved g c =
    elim c.if-who-len.branch [
      | then-who-len w ↦
          ap (λ (l : WorldSeen). length l.sessions) w.world-is
          ∙ event_count _ w.event-event.result c.loop-who.world w.event-event.new.self w.event-event.ensures.event
          ∙ c.loop-who.invariant
      | else-who-len w ↦ ap (λ (l : WorldSeen). length l.sessions) w.world-is ∙ c.loop-who.invariant
    ]
