use Rattle.std.proofs.Common.{◌≡◌, ◌∙◌, ap, sym, subst, ◌++◌, ◌∷◌, [], length, None, Some}
use Rattle.mars_graphs.specs.Nodes.{Nodes, leaf_among, leaf_of_variable, nodes_with_variable, AreNodes}
use Rattle.mars_graphs.specs.NodesInside.{nodes_inside}
use Rattle.mars_graphs.proofs.Building.{leaf_added, nodes_with_variable-new, nodes-leaf, nodes-is, leaves-inserted, leaf_among-new}
use Rattle.mars_graphs.proofs.nodes.NodeMaker.add_variable.Goals as goal

unknown : (c : goal.After-push_reserved) → leaf_of_variable (nodes_inside c.self.inside) c.args.name ≡ None
unknown c = ap (λ (b : Nodes). leaf_of_variable b c.args.name) c.self.view_is ∙ c.requires

leaves-added : (c : goal.After-push_reserved) → c.insert.new.self.entries ≡ (nodes_inside c.self.inside).leaves ++ (c.args.name, length c.self.inside.graph) ∷ []
leaves-added c =
    let kept : c.reserve-2.new.self.entries ≡ c.self.inside.leaves.entries = c.in_ok-reserve-2.ensures.entries in
    let new : leaf_among c.args.name c.reserve-2.new.self.entries ≡ None = ap (leaf_among c.args.name) kept ∙ unknown c in
    c.in_ok-insert.ensures.entries ∙ leaves-inserted c.args.name c.in_ok-leaf.leaf c.reserve-2.new.self.entries new
    ∙ ap (λ es. es ++ (c.args.name, c.in_ok-leaf.leaf) ∷ []) kept ∙ ap (λ n. (nodes_inside c.self.inside).leaves ++ (c.args.name, n) ∷ []) c.in_ok-leaf.ensures.node

added : (c : goal.After-push_reserved) → nodes_inside (record { graph = c.add_free.new.self; targets = c.push_reserved.new.self; leaves = c.insert.new.self }) ≡ leaf_added (nodes_inside c.self.inside) c.args.name
added c = nodes-is _ _ _ _ _ _ c.in_ok-leaf.ensures.ok
    (c.push_reserved.ensures.items ∙ ap (λ ts. ts ++ c.in_ok-leaf.leaf ∷ []) c.in_ok-reserve.ensures.items ∙ ap (λ n. c.self.inside.targets.items ++ n ∷ []) c.in_ok-leaf.ensures.node)
    (leaves-added c)

pub invariant_of-self-2 : goal.invariant_of-self-2
invariant_of-self-2 c = subst AreNodes (sym (added c)) (nodes-leaf (nodes_inside c.self.inside) c.args.name c.self.invariant (unknown c))

pub returns-clause-ok : goal.returns-clause-ok
returns-clause-ok c = added c ∙ sym (nodes_with_variable-new (nodes_inside c.self.inside) c.args.name (unknown c)) ∙ ap (λ (b : Nodes). nodes_with_variable b c.args.name) c.self.view_is

pub returns-clause-leaf : goal.returns-clause-leaf
returns-clause-leaf c =
    ap (λ (b : Nodes). leaf_of_variable b c.args.name) (added c) ∙ leaf_among-new c.args.name (nodes_inside c.self.inside).leaves (length c.self.inside.graph) (unknown c) ∙ ap Some (sym c.in_ok-leaf.ensures.node)
