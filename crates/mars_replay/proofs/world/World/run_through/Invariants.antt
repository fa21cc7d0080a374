use Rattle.std.proofs.Common.{ℕ, length, replicate, ◌<◌}
use Rattle.mars_replay.specs.WorldSeen.{AreWorldEvents}
use Rattle.mars_replay.specs.WorldInside.{IsSoundWorld}
use Rattle.mars_replay.proofs.Left.{world_left}
use Rattle.mars_replay.proofs.world.World.run_through.Given as goal

abbrev pub invariant-events : goal.invariant-events
invariant-events l = record {
  events : (k : ℕ) × AreWorldEvents (replicate k l.who) l.fn.self l.self;
  sound : IsSoundWorld l.self;
  within : l.who < length l.self.sessions;
}

abbrev pub decreases-events : goal.decreases-events
decreases-events l = world_left l.who l.self
