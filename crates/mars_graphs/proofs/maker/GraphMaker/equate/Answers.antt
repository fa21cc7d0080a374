use Rattle.mars_graphs.specs.MakingInside.{making_of}
use Rattle.mars_graphs.proofs.Makes.{making-left}
use Rattle.mars_graphs.proofs.maker.GraphMaker.equate.Goals as goal

pub invariant_of-self-2 : goal.invariant_of-self-2
invariant_of-self-2 c = making-left (making_of c.self.inside) c.variable.new.self c.args.name c.in_ok-leaf.leaf c.if-self.self c.self.invariant c.in_ok-leaf.ensures.ok c.in_ok-leaf.ensures.leaf
