use Rattle.std.proofs.Common.{sym, subst, arith}
use Rattle.std.specs.Prelude.{List, vec_len}
use denote.Param.Send.{param_send, arg_send}
use Rattle.mars_table.specs.declared.entry.Entry.{Entry}
use Rattle.mars_session.specs.SessionPoints.{session_parts}
use Rattle.mars_session.specs.SessionSeen.{SessionSeen}
use Rattle.mars_session.proofs.Numbering.{parts_are_numbered}
use Rattle.mars_gate.specs.Jobs.{AreNewJobs}
use Rattle.mars_gate.specs.SessionJobs.{session_job}
use Rattle.mars_gate.specs.CutRuns.{GivesCutRunOf}
use Rattle.mars_gate.proofs.Crossing.{session_send}
use Rattle.mars_gate.proofs.SessionLemmas.{new_sessions, few_sessions, gives_cut_run}
use Rattle.mars_gate.proofs.side_by_side.run_sessions.Goals as goal

pub run_jobs-requires-send-J : goal.run_jobs-requires-send-J
run_jobs-requires-send-J g c κs = search (param_send, arg_send, session_send)

pub run_jobs-requires-clause-few : goal.run_jobs-requires-clause-few
run_jobs-requires-clause-few g c κs lives =
    let sessions = c.in_ok-sessions.sessions in
    few_sessions c.args.input.now c.args.options sessions.items (vec_len sessions) c.in_ok-sessions.ensures (omega (arith, sessions.ok.0)) c.requires.few

pub run_jobs-requires-clause-new : goal.run_jobs-requires-clause-new
run_jobs-requires-clause-new g c κs lives =
    subst (λ (l : List SessionSeen). AreNewJobs session_job l) (sym c.in_ok-sessions.ensures) (new_sessions c.args.input.now c.args.options)

pub returns : goal.returns
returns g c =
    let input = c.args.input.now in
    let options = c.args.options in
    let closed = c.in_ok-closed.closed in
    let ended = c.in_ok-closed.ensures in
    let ran = c.in_ok-ran.ran in
    let told = c.in_ok-ran.ensures in
    subst (λ (h : List Entry). GivesCutRunOf input options h ran.text.items ran.cut) (sym told.history)
    (gives_cut_run (session_parts input options) options.rows (parts_are_numbered input options) c.in_ok-sessions.sessions.items closed.jobs.items c.in_ok-sessions.ensures closed.table.history
    ended.legal ended.jobs closed.replies ended.closing ran.text.items told.text ran.cut told.cut)
