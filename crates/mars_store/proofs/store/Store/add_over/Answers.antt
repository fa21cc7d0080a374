use Rattle.std.proofs.Common.{◌∙◌, ◌<◌, ap, length, map}
use Rattle.std.proofs.lemmas.List.{length-map}
use Rattle.std.proofs.lemmas.List.Elements.{All-map, All-weaker}
use Rattle.mars_tree.specs.Graph.{Node, IsNode, labelled}
use Rattle.mars_store.specs.System.{IsNodeAt, node_at}
use Rattle.mars_store.specs.CellsInside.{LinkedNodes}
use Rattle.mars_store.proofs.Stored.{pushed}
use Rattle.mars_store.proofs.Found.{found-below}
use Rattle.mars_store.proofs.store.Store.add_over.Goals as goal

pub invariant_of-self-2 : goal.invariant_of-self-2
invariant_of-self-2 c =
    let nodes = c.args.nodes.now in
    let count = length c.args.self.now.nodes in
    let node : Node = labelled c.args.label (map (node_at nodes) c.args.places.now) in
    let is : IsNode count node = record {
      kids = length-map c.args.places.now (node_at nodes) ∙ c.requires.arity;
      in_range = All-map (λ kid. kid < count) (node_at nodes) c.args.places.now
          (All-weaker (IsNodeAt nodes count) (λ place. node_at nodes place < count) (λ place h. found-below nodes count place h) c.args.places.now c.requires.filled);
    } in
    (pushed c.self.inside.nodes.nodes _ c.self.inside.nodes.links _ c.self.inside.trail.items c.args.self.now node c.self.view_is c.self.invariant is
    (ap (λ (all : LinkedNodes). all.nodes) c.in_ok-push_over.ensures.ok) (ap (λ (all : LinkedNodes). all.links) c.in_ok-push_over.ensures.ok)).0
