use Rattle.mars_replay.specs.WorldRuns.{RunsThrough}
use Rattle.mars_replay.proofs.world.World.run_all.Given as goal

abbrev pub invariant-loop-who : goal.invariant-loop-who
invariant-loop-who l = RunsThrough 0 l.who l.fn.self l.self
