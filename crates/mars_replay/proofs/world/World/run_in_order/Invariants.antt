use Rattle.std.proofs.Common.{take}
use Rattle.mars_replay.specs.WorldSeen.{AreWorldEvents}
use Rattle.mars_replay.proofs.world.World.run_in_order.Given as goal

abbrev pub invariant-loop-who : goal.invariant-loop-who
invariant-loop-who l = AreWorldEvents (take l.who-index l.order) l.fn.self l.self
