use Rattle.std.proofs.Common.{arith, ap, ◌<◌, length}
use Rattle.std.proofs.lemmas.List.{get_or_default}
use Rattle.mars_tree.specs.Graph.{kids_of}
use Rattle.mars_graphs.proofs.Passes.{give-more, kids_set-length}
use Rattle.mars_graphs.proofs.redirect.redirect_kids.Goals as goal

pub loop-place-preserved : goal.loop-place-preserved
loop-place-preserved c =
    let kid = c.kid-kid.result in
    let less : c.loop-place.place < length (kids_of c.args.graph.now c.args.node) = omega (arith, c.loop-place-test.true, c.arity-place-end.ensures) in
    let kid_in : kid < length c.args.targets.now = omega (arith, c.kid-kid.ensures.kid_in, ap length c.loop-place.invariant, c.requires.as_many, kids_set-length) in
    give-more c.args.graph.now c.loop-place.graph c.set_kid.new.self c.args.node c.loop-place.place kid _ c.args.targets.now c.loop-place.invariant c.requires.node_in less c.kid-kid.ensures.kid
    (get_or_default c.args.targets.now kid 0 kid kid_in) c.set_kid.ensures
