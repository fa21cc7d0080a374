use Rattle.std.proofs.Common.{◌≡◌, [], ◌∷◌, ◌++◌, ◌∙◌, ap}
use Rattle.mars_table.specs.History.{held}
use Rattle.mars_table.specs.declared.entry.Call.TheVariants as call
use Rattle.mars_table.specs.declared.entry.Reply.TheVariants as reply
use Rattle.rows_turn.proofs.HeldLemmas.{held_called, has_first, first_gone}
use Rattle.rows_turn.proofs.book.alone.call_each.Goals as goal

pub nodes_shown-requires-clause-may : goal.nodes_shown-requires-clause-may
nodes_shown-requires-clause-may g c =
    let h = c.args.handle.0 in
    let p = c.pin.new.pass in
    let two : held p.view.mine ≡ h ∷ h ∷ [] = held_called c.args.pass.now p (call.Pin c.args.handle) reply.Pinned c.in_ok-pin.ensures.called ∙ ap (λ xs. xs ++ h ∷ []) c.requires.pins in
    has_first (held p.view.mine) h (h ∷ []) two

pub drop-requires-clause-may : goal.drop-requires-clause-may
drop-requires-clause-may g c =
    let h = c.args.handle.0 in
    let p = c.pin.new.pass in
    let two : held p.view.mine ≡ h ∷ h ∷ [] = held_called c.args.pass.now p (call.Pin c.args.handle) reply.Pinned c.in_ok-pin.ensures.called ∙ ap (λ xs. xs ++ h ∷ []) c.requires.pins in
    has_first (held c.nodes_shown.new.pass.view.mine) h (h ∷ []) (c.in_ok-shown.ensures.pins ∙ two)

pub nodes_shown-requires-2-clause-may : goal.nodes_shown-requires-2-clause-may
nodes_shown-requires-2-clause-may g c =
    let h = c.args.handle.0 in
    let p = c.pin.new.pass in
    let two : held p.view.mine ≡ h ∷ h ∷ [] = held_called c.args.pass.now p (call.Pin c.args.handle) reply.Pinned c.in_ok-pin.ensures.called ∙ ap (λ xs. xs ++ h ∷ []) c.requires.pins in
    let q = c.nodes_shown.new.pass in
    let dropped = c.drop.new.pass in
    let swept = c.sweep.new.pass in
    let one : held dropped.view.mine ≡ h ∷ [] = held_called q dropped (call.Drop c.args.handle) reply.Dropped c.drop.ensures.called ∙ first_gone (held q.view.mine) h (h ∷ []) (c.in_ok-shown.ensures.pins ∙ two) in
    let still : held c.count.new.pass.view.mine ≡ held dropped.view.mine =
    held_called swept c.count.new.pass call.Count (reply.Counted c.in_ok-rows.rows c.in_ok-rows.pins) c.in_ok-rows.ensures.called
    ∙ held_called dropped swept call.Sweep (reply.Swept c.in_ok-swept.swept) c.in_ok-swept.ensures.called in
    has_first (held c.count.new.pass.view.mine) h [] (still ∙ one)
