use Rattle.std.proofs.Common.{◌∷◌, [], length, ap, ◌∙◌}
use Rattle.mars_tree.proofs.Laid.{put_last}
use Rattle.mars_store.specs.declared.nodes.Cell.{Cell}
use Rattle.mars_store.proofs.Celled.{cells-push}
use Rattle.mars_store.proofs.nodes.Nodes.push.Goals as goal

pub invariant_of-self-2 : goal.invariant_of-self-2
invariant_of-self-2 c =
    let cell : Cell = record { label = c.args.label; start = c.len.result; link = c.len-2.result } in
    let put = put_last _ _ _ (cell ∷ []) c.in_ok-reserve.ensures.items c.push_reserved.ensures.items in
    let kids = put_last _ _ _ c.args.kids.now c.in_ok-reserve-2.ensures.items c.push_all.ensures in
    let start = c.len.ensures ∙ c.reserve-2.new.self.ok.0 ∙ ap length c.in_ok-reserve-2.ensures.items in
    let link = c.len-2.ensures ∙ c.reserve.new.self.ok.0 ∙ ap length c.in_ok-reserve.ensures.items in
    (cells-push c.self.inside.cells.items _ c.self.inside.kids.items c.args.kids.now _ c.args.self.now cell c.self.invariant c.self.view_is put kids start link c.requires.arity c.requires.inside).0

pub returns-clause-ok : goal.returns-clause-ok
returns-clause-ok c =
    let cell : Cell = record { label = c.args.label; start = c.len.result; link = c.len-2.result } in
    let put = put_last _ _ _ (cell ∷ []) c.in_ok-reserve.ensures.items c.push_reserved.ensures.items in
    let kids = put_last _ _ _ c.args.kids.now c.in_ok-reserve-2.ensures.items c.push_all.ensures in
    let start = c.len.ensures ∙ c.reserve-2.new.self.ok.0 ∙ ap length c.in_ok-reserve-2.ensures.items in
    let link = c.len-2.ensures ∙ c.reserve.new.self.ok.0 ∙ ap length c.in_ok-reserve.ensures.items in
    (cells-push c.self.inside.cells.items _ c.self.inside.kids.items c.args.kids.now _ c.args.self.now cell c.self.invariant c.self.view_is put kids start link c.requires.arity c.requires.inside).1
