use Rattle.std.proofs.Common.{◌≡◌, ◌<◌, ap, ◌∙◌, length, Some, arith}
use Rattle.mars_graphs.specs.Nodes.{Nodes, leaf_of_variable}
use Rattle.mars_graphs.specs.NodesInside.{nodes_inside}
use Rattle.mars_graphs.proofs.Standing.{leaf-within}
use Rattle.mars_graphs.proofs.nodes.NodeMaker.tie.Goals as goal

pub gives_way-requires : goal.gives_way-requires
gives_way-requires c =
    let found : leaf_of_variable (nodes_inside c.self.inside) c.requires.leaf.0 ≡ Some c.args.leaf = ap (λ (b : Nodes). leaf_of_variable b c.requires.leaf.0) c.self.view_is ∙ c.requires.leaf.1 in
    let less = leaf-within (nodes_inside c.self.inside) c.requires.leaf.0 c.args.leaf c.self.invariant found in
    omega (arith, less, c.self.invariant.size, ap (λ (b : Nodes). length b.nodes) c.self.view_is)

pub index_mut-requires : goal.index_mut-requires
index_mut-requires c =
    let found : leaf_of_variable (nodes_inside c.self.inside) c.requires.leaf.0 ≡ Some c.args.leaf = ap (λ (b : Nodes). leaf_of_variable b c.requires.leaf.0) c.self.view_is ∙ c.requires.leaf.1 in
    let less : c.args.leaf < length c.self.inside.targets.items = leaf-within (nodes_inside c.self.inside) c.requires.leaf.0 c.args.leaf c.self.invariant found in
    omega (arith, less)
