use Rattle.std.proofs.Common.{◌<◌, take, List, ℕ, slice_index_or, sym, subst}
use Rattle.std.proofs.lemmas.List.{take_more}
use Rattle.mars_replay.specs.WorldSeen.{AreWorldEvents}
use Rattle.mars_replay.proofs.SoundWorlds.{events_count}
use Rattle.mars_replay.proofs.Kept.{events_more}
use Rattle.mars_replay.proofs.world.World.run_in_order.Goals as goal

pub event-event-requires : goal.event-event-requires
event-event-requires c =
    let count = events_count (take c.loop-who.who-index c.args.order.now) c.args.self.now c.loop-who.self c.loop-who.invariant in
    subst (λ n. slice_index_or c.args.order.now c.loop-who.who-index 0 < n) (sym count) (c.requires c.loop-who.who-index 0 c.loop-who-test.true)

pub loop-who-preserved : goal.loop-who-preserved
loop-who-preserved c =
    let i = c.loop-who.who-index in
    let order = c.args.order.now in
    subst (λ (l : List ℕ). AreWorldEvents l c.args.self.now c.event-event.new.self) (sym (take_more order i 0 c.loop-who-test.true))
    (events_more (take i order) (slice_index_or order i 0) c.event-event.result c.args.self.now c.loop-who.self c.event-event.new.self c.loop-who.invariant c.event-event.ensures.event)
