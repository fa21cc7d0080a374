use Rattle.std.proofs.Common.{All, Contains, slice_get, ap, ◌∙◌, length}
use Rattle.std.proofs.lemmas.List.Elements.{All-contains}
use Rattle.mars_tree.specs.Graph.{kids_of}
use Rattle.mars_reach.proofs.Numbers.{contains_at}
use Rattle.mars_comp.specs.Key.{inner}
use Rattle.mars_first.proofs.Placing.{component_none}
use Rattle.mars_first.proofs.component.by_places.Goals as goal

pub loop-place-init : goal.loop-place-init
loop-place-init c =
    let none = ap length c.new-numbers.ensures.items in
    record {
      is = component_none c.args.graph.now c.args.parts.now c.args.outside.now c.args.starts.now (record { places = record { numbers = c.new-numbers.result; kids = c.new-kids.result }; rows = c.new-rows.result }) none (ap length c.new-kids.ensures.items) c.new-rows.ensures.empty;
      count = none;
    }

pub push_node-requires-clause-closed : goal.push_node-requires-clause-closed
push_node-requires-clause-closed c =
    let order = c.args.starts.now in
    All-contains (λ n. All (Contains order) (kids_of (inner c.args.graph.now c.args.parts.now) n)) order c.get.result c.requires.closed (contains_at order c.loop-place.place c.get.result c.get.ensures)

pub push_node-requires-clause-next : goal.push_node-requires-clause-next
push_node-requires-clause-next c = ap (slice_get c.args.starts.now) c.loop-place.invariant.count ∙ c.get.ensures
