use Rattle.std.proofs.Common.{ap, sym, ◌∙◌, subst, inl}
use Rattle.mars_session.specs.SessionSeen.{SessionSeen, HasMore, cut_session}
use Rattle.mars_session.proofs.DoorLemmas.{has_more, takes_requires, cut_after_call, taken_at, taken_follows}
use Rattle.mars_session.proofs.doors.event.Goals as goal

pub take-requires : goal.take-requires
take-requires g c =
    let d = g.D.Door in
    let old = c.args.door.now in
    let w = rw c.in-Ok-Wants.field-0-is at c.in-Ok-Wants.ensures.ok in
    takes_requires (d.lone old) (d.cap c.call.new.self) c.args.session.now c.turn.new.self c.in-Ok-Wants.call c.in-Ok.reply (d.who old) (d.mine old) (d.seen old) (d.mine c.call.new.self) (d.seen c.call.new.self) w c.requires.number c.in-Ok.ensures.mine c.in-Ok.ensures.seen c.in-Ok.ensures.legal

pub cut-requires-in-Err-take : goal.cut-requires-in-Err-take
cut-requires-in-Err-take g c =
    let w = rw c.in-Ok-Wants.field-0-is at c.in-Ok-Wants.ensures.ok in
    subst (λ (s : SessionSeen). HasMore s) (sym (c.in-Err-take.ensures.err ∙ w.1)) (has_more c.args.session.now c.in-Ok-Wants.call w.0)

pub returns-in-Err-call-clause-follows : goal.returns-in-Err-call-clause-follows
returns-in-Err-call-clause-follows g c =
    let w = rw c.in-Ok-Wants.field-0-is at c.in-Ok-Wants.ensures.ok in
    record { went = has_more c.args.session.now c.in-Ok-Wants.call w.0; cut = c.cut-in-Err-call.ensures ∙ ap cut_session w.1; door = inl c.in-Err-call.ensures.as_before }

pub returns-in-Err-take-clause-follows : goal.returns-in-Err-take-clause-follows
returns-in-Err-take-clause-follows g c =
    let d = g.D.Door in
    let old = c.args.door.now in
    let w = rw c.in-Ok-Wants.field-0-is at c.in-Ok-Wants.ensures.ok in
    cut_after_call (d.lone old) (d.cap c.call.new.self) c.args.session.now c.turn.new.self c.in-Ok-Wants.call c.in-Ok.reply (d.who old) (d.mine old) (d.seen old) (d.mine c.call.new.self) (d.seen c.call.new.self) w c.requires.number c.in-Ok.ensures.mine c.in-Ok.ensures.seen c.in-Ok.ensures.legal
    c.cut-in-Err-take.new.self (c.cut-in-Err-take.ensures ∙ ap cut_session c.in-Err-take.ensures.err)

pub returns-in-Ok-take-clause-mine : goal.returns-in-Ok-take-clause-mine
returns-in-Ok-take-clause-mine g c going =
    let d = g.D.Door in
    let old = c.args.door.now in
    let w = rw c.in-Ok-Wants.field-0-is at c.in-Ok-Wants.ensures.ok in
    taken_at (d.lone old) (d.cap c.call.new.self) c.args.session.now c.turn.new.self c.in-Ok-Wants.call c.in-Ok.reply (d.who old) (d.mine old) (d.seen old) (d.mine c.call.new.self) (d.seen c.call.new.self) w c.requires.number c.in-Ok.ensures.mine c.in-Ok.ensures.seen c.in-Ok.ensures.legal
    c.take.new.self c.in-Ok-take.ensures.ok c.requires.mine

pub returns-in-Ok-take-clause-follows : goal.returns-in-Ok-take-clause-follows
returns-in-Ok-take-clause-follows g c =
    let d = g.D.Door in
    let old = c.args.door.now in
    let w = rw c.in-Ok-Wants.field-0-is at c.in-Ok-Wants.ensures.ok in
    taken_follows (d.lone old) (d.cap c.call.new.self) c.args.session.now c.turn.new.self c.in-Ok-Wants.call c.in-Ok.reply (d.who old) (d.mine old) (d.seen old) (d.mine c.call.new.self) (d.seen c.call.new.self) w c.requires.number c.in-Ok.ensures.mine c.in-Ok.ensures.seen c.in-Ok.ensures.legal
    c.take.new.self c.in-Ok-take.ensures.ok
