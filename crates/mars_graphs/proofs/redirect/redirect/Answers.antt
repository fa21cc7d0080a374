use Rattle.std.proofs.Common.{arith, ◌<◌, length}
use Rattle.mars_graphs.proofs.Passes.{pass-more}
use Rattle.mars_graphs.proofs.redirect.redirect.Goals as goal

pub loop-node-preserved : goal.loop-node-preserved
loop-node-preserved c =
    let less : c.loop-node.node < length c.args.graph.now = omega (arith, c.loop-node-test.true, c.len-node-end.ensures.len) in
    pass-more c.args.graph.now c.loop-node.graph c.redirect_kids.new.graph c.loop-node.node c.args.targets.now c.loop-node.invariant less c.redirect_kids.ensures
