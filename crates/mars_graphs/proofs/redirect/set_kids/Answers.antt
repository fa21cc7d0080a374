use Rattle.std.proofs.Common.{refl}
use Rattle.mars_graphs.proofs.Passes.{set-more}
use Rattle.mars_graphs.proofs.redirect.set_kids.Goals as goal

pub loop-place-preserved : goal.loop-place-preserved
loop-place-preserved c =
    set-more c.args.graph.now c.loop-place.graph c.set_kid.new.self c.args.node c.loop-place.place _ 0 c.args.kids.now c.loop-place.invariant c.requires.node_in c.loop-place-test.true c.requires.as_many refl c.set_kid.ensures
