use Rattle.std.proofs.Common.{◌∙◌, ◌++◌, ◌∷◌, [], ap, sym, subst}
use Rattle.mars_graphs.specs.Making.{IsMaking}
use Rattle.mars_graphs.specs.MakingInside.{making_of}
use Rattle.mars_graphs.proofs.Makes.{making-variable, variable-made}
use Rattle.mars_graphs.proofs.maker.GraphMaker.variable.Goals as goal

pub invariant_of-self-2 : goal.invariant_of-self-2
invariant_of-self-2 c = subst IsMaking
    (sym (variable-made (making_of c.self.inside) c.variable.new.self c.args.name c.push_reserved.new.self.items c.in_ok-leaf.leaf c.in_ok-leaf.ensures.ok c.in_ok-leaf.ensures.leaf
    (c.push_reserved.ensures.items ∙ ap (λ terms. terms ++ c.in_ok-leaf.leaf ∷ []) c.in_ok-reserve.ensures.items)))
    (making-variable (making_of c.self.inside) c.args.name c.self.invariant)
