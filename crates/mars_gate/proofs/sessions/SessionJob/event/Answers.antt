use Rattle.mars_gate.proofs.SessionLemmas.{session_advances, session_later, session_stays_cut}
use Rattle.mars_gate.proofs.sessions.SessionJob.event.Goals as goal

pub returns-in_default-clause-advances : goal.returns-in_default-clause-advances
returns-in_default-clause-advances g c =
    let d = g.D.Door in
    let old = c.args.door.now in
    let new = c.event-came.new.door in
    session_advances (d.lone old) c.args.self.now (d.mine old) (d.seen old) c.event-came.new.session (d.mine new) (d.seen new) c.event-came.result c.event-came.ensures.follows

pub returns-in_default-clause-later : goal.returns-in_default-clause-later
returns-in_default-clause-later g c =
    let d = g.D.Door in
    let old = c.args.door.now in
    let new = c.event-came.new.door in
    session_later (d.lone old) c.args.self.now (d.mine old) (d.seen old) c.event-came.new.session (d.mine new) (d.seen new) c.event-came.result c.event-came.ensures.follows

pub returns-in_default-clause-cut : goal.returns-in_default-clause-cut
returns-in_default-clause-cut g c =
    let d = g.D.Door in
    let old = c.args.door.now in
    let new = c.event-came.new.door in
    session_stays_cut (d.lone old) c.args.self.now (d.mine old) (d.seen old) c.event-came.new.session (d.mine new) (d.seen new) c.event-came.result c.event-came.ensures.follows
