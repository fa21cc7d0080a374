use Rattle.std.proofs.Common.{◌<◌, ℕ, List, length, All, subst, sym, arith}
use Rattle.mars_reach.proofs.Numbers.{All-slice_get}
use Rattle.mars_comp.specs.Key.{inner, IsKey}
use Rattle.mars_comp.proofs.Inner.{inner_size}
use Rattle.mars_first.proofs.Narrowed.{first_is, are_places, are_numbered, starts_some}
use Rattle.mars_first.proofs.narrowing.first.Goals as goal

pub by_places-requires-clause-in_range : goal.by_places-requires-clause-in_range
by_places-requires-clause-in_range c =
    subst (λ (m : ℕ). All (λ n. n < m) c.in_ok-starts.starts) (inner_size c.args.graph.now c.args.parts.now c.requires.parts.size) c.in_ok-starts.ensures.reach.in_range

pub first_place-requires-clause-places : goal.first_place-requires-clause-places
first_place-requires-clause-places c =
    are_places c.args.graph.now c.args.parts.now c.args.outside.now c.in_ok-starts.starts c.in_ok-component.component c.requires.parts.size c.in_ok-component.ensures.is c.in_ok-component.ensures.count c.in_ok-starts.ensures.reach.distinct c.in_ok-starts.ensures.closed

pub first_place-requires-clause-rows_in : goal.first_place-requires-clause-rows_in
first_place-requires-clause-rows_in c =
    are_numbered c.args.graph.now c.args.parts.now c.args.outside.now c.in_ok-starts.starts c.in_ok-component.component c.in_ok-component.ensures.is c.in_ok-component.ensures.count

pub first_place-requires-clause-some : goal.first_place-requires-clause-some
first_place-requires-clause-some c =
    starts_some c.args.graph.now c.args.parts.now c.args.node c.in_ok-starts.starts c.in_ok-component.component c.in_ok-starts.ensures.reach c.in_ok-component.ensures.count

pub round-requires-2-clause-node_in : goal.round-requires-2-clause-node_in
round-requires-2-clause-node_in c =
    let within = All-slice_get (λ (n : ℕ). n < length (inner c.args.graph.now c.args.parts.now)) c.in_ok-starts.starts c.in_ok-place.place c.get-start.result c.in_ok-starts.ensures.reach.in_range c.get-start.ensures in
    let size = inner_size c.args.graph.now c.args.parts.now c.requires.parts.size in
    omega (arith, within, size)

pub key_items-requires-clause-in_range : goal.key_items-requires-clause-in_range
key_items-requires-clause-in_range c =
    subst (λ (m : ℕ). All (λ n. n < m) c.in_ok-order.order) (inner_size c.args.graph.now c.args.parts.now c.requires.parts.size) c.in_ok-order.ensures.reach.in_range

pub returns : goal.returns
returns c =
    let g = c.args.graph.now in
    let parts = c.args.parts.now in
    let outside = c.args.outside.now in
    let key = c.in_ok-items.items.items in
    let nodes = c.in_ok-nodes.nodes.items in
    let is_key : IsKey g parts outside c.get-start.result nodes key =
    subst (λ (ns : List ℕ). IsKey g parts outside c.get-start.result ns key) (sym c.in_ok-nodes.ensures) (record { order = c.in_ok-order.ensures.reach; items = c.in_ok-items.ensures }) in
    first_is g parts outside c.args.node c.in_ok-starts.starts c.in_ok-component.component c.get-start.result c.in_ok-place.place nodes key c.len-count.ensures.graph c.requires.parts c.requires.node_in
    c.in_ok-starts.ensures.reach c.in_ok-starts.ensures.closed c.in_ok-component.ensures.is c.in_ok-component.ensures.count c.in_ok-place.ensures.narrows c.get-start.ensures is_key
