use Rattle.std.proofs.Common.{◌<◌, suc, sym, subst}
use Rattle.mars_replay.proofs.SoundWorlds.{event_count}
use Rattle.mars_replay.proofs.Left.{event_world_left, done_at}
use Rattle.mars_replay.proofs.Kept.{events_again}
use Rattle.mars_replay.proofs.world.World.run_through.Goals as goal

pub returns-then-is_done : goal.returns-then-is_done
returns-then-is_done c =
    let e = c.events.invariant.events in (
      suc e.0,
      events_again e.0 c.args.who c.event.result c.args.self.now c.events.self c.event.new.self e.1 c.event.ensures.event,
      done_at c.args.who c.event.result c.events.self c.event.new.self (c.is_done.ensures.done c.if-is_done.true) c.event.ensures.event,
    )

pub events-smaller : goal.events-smaller
events-smaller c = event_world_left c.args.who c.event.result c.events.self c.event.new.self c.events.invariant.sound c.event.ensures.event (c.is_done.ensures.other c.if-is_done.false)

pub events-preserved : goal.events-preserved
events-preserved c =
    let e = c.events.invariant.events in
    record {
      events = (suc e.0, events_again e.0 c.args.who c.event.result c.args.self.now c.events.self c.event.new.self e.1 c.event.ensures.event);
      sound = c.event.ensures.sound;
      within = subst (λ n. c.args.who < n) (sym (event_count c.args.who c.event.result c.events.self c.event.new.self c.event.ensures.event)) c.events.invariant.within;
    }
