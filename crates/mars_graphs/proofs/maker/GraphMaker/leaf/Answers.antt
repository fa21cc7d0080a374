use Rattle.std.proofs.Common.{◌∙◌, ◌++◌, ◌∷◌, [], ap, sym, subst}
use Rattle.mars_graphs.specs.Steps.{Leaf}
use Rattle.mars_graphs.specs.Making.{IsMaking}
use Rattle.mars_graphs.specs.MakingInside.{making_of}
use Rattle.mars_graphs.proofs.Makes.{making-step, node-made}
use Rattle.mars_graphs.proofs.maker.GraphMaker.leaf.Goals as goal

pub invariant_of-self-2 : goal.invariant_of-self-2
invariant_of-self-2 c = subst IsMaking
    (sym (node-made (making_of c.self.inside) c.apply.new.self c.args.label c.push_reserved.new.self.items c.in_ok-node.node c.in_ok-node.ensures.ok c.in_ok-node.ensures.node
    (c.push_reserved.ensures.items ∙ ap (λ terms. terms ++ c.in_ok-node.node ∷ []) c.in_ok-reserve.ensures.items)))
    (making-step (making_of c.self.inside) (Leaf c.args.label) c.self.invariant)
