use Rattle.std.proofs.Common.{arith}
use Rattle.mars_watch.proofs.Touching.{gathered-next, gathered-all}
use Rattle.mars_watch.proofs.gathering.gather_bound.Goals as goal

pub loop-place-preserved : goal.loop-place-preserved
loop-place-preserved c =
    gathered-next c.args.watchers.now c.args.store.now.bound c.args.seen c.loop-place.place c.loop-place.gathered.items c.gather.new.into.items c.equation-variable.result c.loop-place.invariant c.in_ok-gather.ensures.ok c.equation-variable.ensures

pub returns : goal.returns
returns c =
    gathered-all c.args.watchers.now c.args.store.now.bound c.args.seen c.loop-place.place c.loop-place.gathered.items (let m = c.mark-place-end.ensures.mark in grind (arith, m, c.loop-place-test.false)) c.loop-place.invariant
