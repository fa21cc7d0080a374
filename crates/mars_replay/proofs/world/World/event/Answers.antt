use Rattle.std.proofs.Common.{◌<◌, sym, subst, length}
use Rattle.std.specs.Prelude.{slice_set}
use Rattle.std.proofs.lemmas.Option.{slice_get_read}
use Rattle.mars_replay.specs.WorldSeen.{WorldSeen, IsWorldEvent}
use Rattle.mars_replay.proofs.Kept.{world_with, is_event, event_kept}
use Rattle.mars_replay.proofs.world.World.event.Goals as goal

pub one_event-requires-clause-at : goal.one_event-requires-clause-at
one_event-requires-clause-at c =
    let inside = c.self.inside in
    let within : c.args.who < length inside.sessions.items = subst (λ (w : WorldSeen). c.args.who < length w.sessions) (sym c.self.view_is) c.requires in
    let is = slice_get_read inside.sessions.items inside.sessions.len c.args.who c.index_mut.result.now inside.sessions.ok.0 (subst (λ n. c.args.who < n) (sym inside.sessions.ok.0) within) c.index_mut.ensures.value in
    (c.self.invariant.sound.entries c.args.who c.index_mut.result.now is).going

pub invariant_of-self : goal.invariant_of-self
invariant_of-self c =
    let inside = c.self.inside in
    let within : c.args.who < length inside.sessions.items = subst (λ (w : WorldSeen). c.args.who < length w.sessions) (sym c.self.view_is) c.requires in
    let is = slice_get_read inside.sessions.items inside.sessions.len c.args.who c.index_mut.result.now inside.sessions.ok.0 (subst (λ n. c.args.who < n) (sym inside.sessions.ok.0) within) c.index_mut.ensures.value in
    let e = is_event inside.table c.one_event.new.table inside.sessions.items c.args.who c.index_mut.result.now c.one_event.new.session c.one_event.result is c.one_event.ensures.cap c.one_event.ensures.legal c.one_event.ensures.follows in
    event_kept c.args.who c.one_event.result _ _ e c.self.invariant

pub returns-clause-event : goal.returns-clause-event
returns-clause-event c =
    let inside = c.self.inside in
    let within : c.args.who < length inside.sessions.items = subst (λ (w : WorldSeen). c.args.who < length w.sessions) (sym c.self.view_is) c.requires in
    let is = slice_get_read inside.sessions.items inside.sessions.len c.args.who c.index_mut.result.now inside.sessions.ok.0 (subst (λ n. c.args.who < n) (sym inside.sessions.ok.0) within) c.index_mut.ensures.value in
    let e = is_event inside.table c.one_event.new.table inside.sessions.items c.args.who c.index_mut.result.now c.one_event.new.session c.one_event.result is c.one_event.ensures.cap c.one_event.ensures.legal c.one_event.ensures.follows in
    subst (λ (w : WorldSeen). IsWorldEvent c.args.who c.one_event.result w (world_with c.one_event.new.table (slice_set inside.sessions.items c.args.who c.one_event.new.session))) c.self.view_is e

pub returns-clause-sound : goal.returns-clause-sound
returns-clause-sound c = (invariant_of-self c).sound
