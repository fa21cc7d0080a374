use Rattle.std.proofs.Common.{◌∙◌, ap, subst, ◌≡◌, ◌<◌, length}
use Rattle.std.specs.Prelude.{IfSome}
use Rattle.mars_graphs.specs.Nodes.{Nodes, leaf_of_variable}
use Rattle.mars_graphs.specs.NodesInside.{nodes_inside}
use Rattle.mars_graphs.proofs.Building.{leaf_among-lookup, leaf-in-range}
use Rattle.mars_graphs.proofs.nodes.NodeMaker.leaf.Goals as goal

found : (c : goal.After-copied) → c.copied.result ≡ leaf_of_variable (nodes_inside c.self.inside) c.args.name
found c = c.copied.ensures ∙ c.get.ensures.value ∙ leaf_among-lookup c.args.name c.self.inside.leaves.entries

pub returns-clause-leaf : goal.returns-clause-leaf
returns-clause-leaf c = found c ∙ ap (λ (b : Nodes). leaf_of_variable b c.args.name) c.self.view_is

pub returns-clause-in_range : goal.returns-clause-in_range
returns-clause-in_range c =
    subst (λ (b : Nodes). IfSome c.copied.result (λ n. n < length b.nodes)) c.self.view_is (leaf-in-range (nodes_inside c.self.inside) c.args.name c.copied.result c.self.invariant (found c))
