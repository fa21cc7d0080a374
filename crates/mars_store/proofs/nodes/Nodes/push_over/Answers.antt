use Rattle.std.proofs.Common.{◌≡◌, ◌<◌, ◌∷◌, [], ℕ, slice_get, Some, length, map, ap, ◌∙◌}
use Rattle.std.proofs.lemmas.List.{length-map}
use Rattle.std.proofs.lemmas.List.Elements.{All-map, All-weaker}
use Rattle.mars_tree.proofs.Laid.{put_last}
use Rattle.mars_store.specs.System.{IsNodeAt, node_at}
use Rattle.mars_store.specs.declared.nodes.Cell.{Cell}
use Rattle.mars_store.proofs.Celled.{cells-push}
use Rattle.mars_store.proofs.Found.{found-below}
use Rattle.mars_store.proofs.nodes.Nodes.push_over.Goals as goal

pub push_found-requires-clause-filled : goal.push_found-requires-clause-filled
push_found-requires-clause-filled c =
    All-weaker (IsNodeAt c.args.nodes.now (length c.args.self.now.nodes)) (λ place. (node : ℕ) × (slice_get c.args.nodes.now place ≡ Some (Some node)))
    (λ place h. (h.node, h.has)) c.args.places.now c.requires.filled

pub invariant_of-self-2 : goal.invariant_of-self-2
invariant_of-self-2 c =
    let nodes = c.args.nodes.now in
    let count = length c.args.self.now.nodes in
    let more = map (node_at nodes) c.args.places.now in
    let cell : Cell = record { label = Some c.args.label; start = c.len.result; link = c.len-2.result } in
    let put = put_last _ _ _ (cell ∷ []) c.in_ok-reserve.ensures.items c.push_reserved.ensures.items in
    let kids = put_last _ _ _ more c.in_ok-reserve-2.ensures.items c.push_found.ensures in
    let start = c.len.ensures ∙ c.reserve-2.new.self.ok.0 ∙ ap length c.in_ok-reserve-2.ensures.items in
    let link = c.len-2.ensures ∙ c.reserve.new.self.ok.0 ∙ ap length c.in_ok-reserve.ensures.items in
    (cells-push c.self.inside.cells.items _ c.self.inside.kids.items more _ c.args.self.now cell c.self.invariant c.self.view_is put kids start link (length-map c.args.places.now (node_at nodes) ∙ c.requires.arity)
    (All-map (λ kid. kid < count) (node_at nodes) c.args.places.now
    (All-weaker (IsNodeAt nodes count) (λ place. node_at nodes place < count) (λ place h. found-below nodes count place h) c.args.places.now c.requires.filled))).0

pub returns-clause-ok : goal.returns-clause-ok
returns-clause-ok c =
    let nodes = c.args.nodes.now in
    let count = length c.args.self.now.nodes in
    let more = map (node_at nodes) c.args.places.now in
    let cell : Cell = record { label = Some c.args.label; start = c.len.result; link = c.len-2.result } in
    let put = put_last _ _ _ (cell ∷ []) c.in_ok-reserve.ensures.items c.push_reserved.ensures.items in
    let kids = put_last _ _ _ more c.in_ok-reserve-2.ensures.items c.push_found.ensures in
    let start = c.len.ensures ∙ c.reserve-2.new.self.ok.0 ∙ ap length c.in_ok-reserve-2.ensures.items in
    let link = c.len-2.ensures ∙ c.reserve.new.self.ok.0 ∙ ap length c.in_ok-reserve.ensures.items in
    (cells-push c.self.inside.cells.items _ c.self.inside.kids.items more _ c.args.self.now cell c.self.invariant c.self.view_is put kids start link (length-map c.args.places.now (node_at nodes) ∙ c.requires.arity)
    (All-map (λ kid. kid < count) (node_at nodes) c.args.places.now
    (All-weaker (IsNodeAt nodes count) (λ place. node_at nodes place < count) (λ place h. found-below nodes count place h) c.args.places.now c.requires.filled))).1
