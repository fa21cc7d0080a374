use Rattle.std.proofs.Common.{ap, length}
use Rattle.mars_tree.specs.Graph.{Node, IsNode}
use Rattle.mars_store.specs.CellsInside.{LinkedNodes}
use Rattle.mars_store.proofs.Stored.{pushed}
use Rattle.mars_store.proofs.store.Store.push.Goals as goal

pub invariant_of-self-2 : goal.invariant_of-self-2
invariant_of-self-2 c =
    let node : Node = record { label = c.args.label; kids = c.args.kids.now } in
    let is : IsNode (length c.args.self.now.nodes) node = record { kids = c.requires.arity; in_range = c.requires.inside } in
    (pushed c.self.inside.nodes.nodes _ c.self.inside.nodes.links _ c.self.inside.trail.items c.args.self.now node c.self.view_is c.self.invariant is
    (ap (λ (all : LinkedNodes). all.nodes) c.in_ok-push.ensures.ok) (ap (λ (all : LinkedNodes). all.links) c.in_ok-push.ensures.ok)).0
