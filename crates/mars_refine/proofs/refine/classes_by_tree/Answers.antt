use Rattle.std.proofs.Common.{arith}
use Rattle.mars_refine.proofs.Refining.{refine_done}
use Rattle.mars_refine.proofs.refine.classes_by_tree.Goals as goal

pub split_by_class-requires-clause-graph : goal.split_by_class-requires-clause-graph
split_by_class-requires-clause-graph c = c.len-nodes.ensures.graph

pub returns-clause-trees : goal.returns-clause-trees
returns-clause-trees c = refine_done c.args.graph.now c.len-nodes.ensures.graph c.loop-next.classes.of c.loop-next.next c.count.result c.loop-next.invariant.refining c.loop-next-test.false c.loop-next.invariant.size (λ u h. c.count.ensures.below u (omega (arith, c.loop-next.invariant.size)))
