use Rattle.std.proofs.Common.{◌≡◌, List, ℕ, map, Contains, All, sym, subst, ◌∙◌, arith, Option}
use Rattle.std.proofs.lemmas.List.Elements.{All-contains}
use Rattle.mars_tree.specs.declared.label.Label.{Label}
use Rattle.mars_tree.specs.Graph.{Node, IsGraph, kids_of}
use Rattle.mars_reach.specs.Order.{place_in, renumbered}
use Rattle.mars_reach.specs.Part.{ShowsPart}
use Rattle.mars_reach.proofs.Flat.{AreLaid, laid_more, laid_all, laid_size, laid_nodes, laid_below}
use Rattle.mars_reach.proofs.Numbers.{contains_at}
use Rattle.mars_reach.proofs.Parts.{part_graph, part_below, part_shows}
use Rattle.mars_reach.proofs.renumber.part.Goals as goal

pub push_places-requires : goal.push_places-requires
push_places-requires c =
    let order = c.args.order.now in
    let node = c.get-node.result in
    subst (All (Contains order)) (sym c.kids.ensures.kids)
    (All-contains (λ n. All (Contains order) (kids_of c.args.graph.now n)) order node c.requires.closed (contains_at order c.loop-place.place node c.get-node.ensures))

pub loop-place-preserved : goal.loop-place-preserved
loop-place-preserved c =
    let order = c.args.order.now in
    laid_more c.args.graph.now (place_in order) order c.loop-place.place c.get-node.result c.loop-place.labels.items c.push.new.self.items c.loop-place.kids.items c.push_places.new.into.items c.get-node.ensures c.loop-place.invariant (record {
      label = c.label.result;
      label_is = c.label.ensures;
      labels_are = c.in_ok-push.ensures.items;
      node_kids = c.kids.result.now;
      node_kids_are = c.kids.ensures.kids;
      kids_are = c.in_ok-push_places.ensures;
    })

laid : (c : goal.After-loop-place) → AreLaid c.args.graph.now (place_in c.args.order.now) c.args.order.now c.loop-place.labels.items c.loop-place.kids.items
laid c = laid_all c.args.graph.now (place_in c.args.order.now) c.args.order.now c.loop-place.place c.loop-place.labels.items c.loop-place.kids.items (omega arith) c.loop-place.invariant

pub from_lists-requires-clause-size : goal.from_lists-requires-clause-size
from_lists-requires-clause-size c =
    laid_size c.args.graph.now (place_in c.args.order.now) c.args.order.now c.loop-place.labels.items c.loop-place.kids.items (laid c) c.len-count.ensures.graph c.requires.in_range

pub from_lists-requires-clause-in_range : goal.from_lists-requires-clause-in_range
from_lists-requires-clause-in_range c =
    laid_below c.args.graph.now (place_in c.args.order.now) c.args.order.now c.loop-place.labels.items c.loop-place.kids.items (laid c)
    (part_below c.args.graph.now c.args.order.now c.len.ensures.distinct c.requires.in_range c.requires.closed)

pub returns : goal.returns
returns c =
    let g = c.args.graph.now in
    let order = c.args.order.now in
    let labels : List (Option Label) = c.loop-place.labels.items in
    let kids : List ℕ = c.loop-place.kids.items in
    let whole = laid_all g (place_in order) order c.loop-place.place labels kids (omega arith) c.loop-place.invariant in
    let is : c.in_ok-part.part ≡ renumbered g (place_in order) order = c.in_ok-part.ensures ∙ laid_nodes g (place_in order) order labels kids whole c.len-count.ensures.graph c.requires.in_range in
    record {
      nodes = is;
      graph = subst IsGraph (sym is) (part_graph g order c.len.ensures.distinct c.requires.in_range c.requires.closed c.len-count.ensures.graph);
      shows = λ roots reach. subst (λ (h : List Node). ShowsPart g roots h (map (place_in order) roots)) (sym is) (part_shows g roots order reach);
    }
