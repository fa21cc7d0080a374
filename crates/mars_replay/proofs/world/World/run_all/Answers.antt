use Rattle.std.proofs.Common.{◌+◌, arith, refl}
use Rattle.mars_replay.proofs.Through.{runs_count}
use Rattle.mars_replay.proofs.Kept.{runs_next}
use Rattle.mars_replay.proofs.world.World.run_all.Goals as goal

pub run_through-requires : goal.run_through-requires
run_through-requires c =
    let count = runs_count 0 c.loop-who.who c.args.self.now c.loop-who.self c.loop-who.invariant in
    let all = c.count-count.ensures.count in
    let below = c.loop-who-test.true in
    omega (arith, count, all, below)

pub loop-who-preserved : goal.loop-who-preserved
loop-who-preserved c =
    let r = c.run_through.ensures in
    runs_next c.loop-who.who (c.loop-who.who + 1) c.args.self.now c.loop-who.self c.run_through.new.self refl c.loop-who.invariant r.0 r.1 r.2
