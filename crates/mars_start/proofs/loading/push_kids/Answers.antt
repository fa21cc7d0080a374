use Rattle.std.proofs.Common.{◌<◌, length, arith}
use Rattle.mars_tree.specs.Graph.{kids_of}
use Rattle.mars_start.proofs.LoadedSteps.{kids-next}
use Rattle.mars_start.proofs.loading.push_kids.Goals as goal

pub loop-place-preserved : goal.loop-place-preserved
loop-place-preserved c =
    let inside : c.kid.result < length c.args.nodes.now = omega (arith, c.kid.ensures.kid_in, c.requires.size) in
    kids-next c.args.nodes.now (kids_of c.args.tree.now c.args.node) c.loop-place.kids.items c.push.new.self.items c.loop-place.place c.kid.result c.index-nodes-kid.result c.kid.ensures.kid inside
    c.index-nodes-kid.is c.loop-place.invariant c.in_ok-push.ensures.items
