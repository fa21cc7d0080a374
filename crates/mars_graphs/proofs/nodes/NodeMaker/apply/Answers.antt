use Rattle.std.proofs.Common.{◌≡◌, ◌∙◌, ap, sym, subst, ◌++◌, ◌∷◌, [], refl, replicate, length}
use Rattle.mars_tree.specs.Label.{arity_of}
use Rattle.mars_tree.specs.Graph.{labelled}
use Rattle.mars_graphs.specs.Nodes.{Nodes, nodes_with, kids_set, AreNodes}
use Rattle.mars_graphs.specs.NodesInside.{nodes_inside}
use Rattle.mars_graphs.proofs.Building.{nodes-node, nodes-is, kids_set-last}
use Rattle.mars_graphs.proofs.nodes.NodeMaker.apply.Goals as goal

added : (c : goal.After-push_reserved) → nodes_inside (record { graph = c.set_kids.new.graph; targets = c.push_reserved.new.self; leaves = c.self.inside.leaves }) ≡ nodes_with (nodes_inside c.self.inside) (labelled c.args.label c.args.kids.now)
added c = nodes-is _ _ _ _ _ _
    (c.set_kids.ensures ∙ ap (λ g. kids_set g c.in_ok-node.node c.args.kids.now) c.in_ok-node.ensures.ok
    ∙ kids_set-last c.self.inside.graph c.args.label (replicate (arity_of c.args.label) (length c.self.inside.graph)) c.args.kids.now c.in_ok-node.node c.in_ok-node.ensures.node)
    (c.push_reserved.ensures.items ∙ ap (λ ts. ts ++ c.in_ok-node.node ∷ []) c.in_ok-reserve.ensures.items ∙ ap (λ n. c.self.inside.targets.items ++ n ∷ []) c.in_ok-node.ensures.node)
    refl

pub invariant_of-self-2 : goal.invariant_of-self-2
invariant_of-self-2 c = subst AreNodes (sym (added c)) (nodes-node (nodes_inside c.self.inside) (labelled c.args.label c.args.kids.now) c.self.invariant)

pub returns-clause-ok : goal.returns-clause-ok
returns-clause-ok c = added c ∙ ap (λ (b : Nodes). nodes_with b (labelled c.args.label c.args.kids.now)) c.self.view_is
