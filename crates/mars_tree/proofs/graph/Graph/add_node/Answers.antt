use Rattle.std.proofs.Common.{◌≡◌, ◌<◌, ◌≤◌, ◌+◌, ◌++◌, ◌∷◌, [], length, map, arith, ap, subst, ◌∙◌}
use Rattle.std.proofs.lemmas.List.{length-map}
use Rattle.std.proofs.lemmas.List.Elements.{All-map, All-weaker}
use Rattle.mars_tree.specs.Stored.{nodes_of}
use Rattle.mars_tree.proofs.Laid.{seen-length, seen-push, laid-push, laid_like, put_last}
use Rattle.mars_tree.proofs.graph.Graph.add_node.Goals as goal

pub invariant_of-self-2 : goal.invariant_of-self-2
invariant_of-self-2 g c =
    let number_of = g.K.NodeNumber.number_of in
    let size = seen-length c.self.inside.labels.items c.self.inside.kids.items c.args.self.now c.self.view_is in
    let start : c.len.result ≡ length c.self.inside.kids.items = omega (arith, c.len.ensures, c.reserve-3.new.self.ok.0, ap length c.in_ok-reserve-3.ensures.items) in
    let labels : c.push_reserved.new.self.items ≡ c.self.inside.labels.items ++ c.args.label ∷ [] = put_last c.self.inside.labels.items c.reserve.new.self.items c.push_reserved.new.self.items (c.args.label ∷ []) c.in_ok-reserve.ensures.items c.push_reserved.ensures.items in
    let starts : c.push_reserved-2.new.self.items ≡ c.self.inside.starts.items ++ length c.self.inside.kids.items ∷ [] =
    subst (λ n. c.push_reserved-2.new.self.items ≡ c.self.inside.starts.items ++ n ∷ []) start
    (put_last c.self.inside.starts.items c.reserve-2.new.self.items c.push_reserved-2.new.self.items (c.len.result ∷ []) c.in_ok-reserve-2.ensures.items c.push_reserved-2.ensures.items) in
    let kids : c.push_kids.new.into.items ≡ c.self.inside.kids.items ++ map number_of c.args.kids.now = put_last c.self.inside.kids.items c.reserve-3.new.self.items c.push_kids.new.into.items (map number_of c.args.kids.now) c.in_ok-reserve-3.ensures.items c.push_kids.ensures in
    let below = All-map (λ k. k < length c.self.inside.labels.items + 1) number_of c.args.kids.now
    (All-weaker (λ kid. number_of kid ≤ length c.args.self.now) (λ kid. number_of kid < length c.self.inside.labels.items + 1) (λ kid h. omega (arith, size, h)) c.args.kids.now c.requires.in_range) in
    laid_like _ _ _ _ _ _ labels starts kids
    (laid-push c.self.inside.labels.items c.self.inside.starts.items c.self.inside.kids.items c.args.label (map number_of c.args.kids.now) c.self.invariant (length-map c.args.kids.now number_of ∙ c.requires.arity) below)

pub returns-clause-node : goal.returns-clause-node
returns-clause-node g c = omega (arith, c.reserve.new.self.ok.0, ap length c.in_ok-reserve.ensures.items, c.len-node.ensures, seen-length c.self.inside.labels.items c.self.inside.kids.items c.args.self.now c.self.view_is)

pub returns-clause-ok : goal.returns-clause-ok
returns-clause-ok g c =
    let number_of = g.K.NodeNumber.number_of in
    let labels : c.push_reserved.new.self.items ≡ c.self.inside.labels.items ++ c.args.label ∷ [] = put_last c.self.inside.labels.items c.reserve.new.self.items c.push_reserved.new.self.items (c.args.label ∷ []) c.in_ok-reserve.ensures.items c.push_reserved.ensures.items in
    let kids : c.push_kids.new.into.items ≡ c.self.inside.kids.items ++ map number_of c.args.kids.now = put_last c.self.inside.kids.items c.reserve-3.new.self.items c.push_kids.new.into.items (map number_of c.args.kids.now) c.in_ok-reserve-3.ensures.items c.push_kids.ensures in
    ap (λ ls. nodes_of ls c.push_kids.new.into.items) labels ∙ ap (nodes_of (c.self.inside.labels.items ++ c.args.label ∷ [])) kids
    ∙ seen-push c.self.inside.labels.items c.self.inside.starts.items c.self.inside.kids.items c.args.self.now c.args.label (map number_of c.args.kids.now) c.self.invariant c.self.view_is (length-map c.args.kids.now number_of ∙ c.requires.arity)
