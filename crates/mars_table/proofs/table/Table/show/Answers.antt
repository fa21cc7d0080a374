use Rattle.std.proofs.Common.{refl, arith, ap, ◌∙◌, ◌++◌, ◌∷◌, []}
use Rattle.mars_table.specs.declared.entry.Entry.{Entry}
use Rattle.mars_table.specs.declared.entry.Call.TheVariants.{Show}
use Rattle.mars_table.specs.declared.entry.Reply.TheVariants.{Shown}
use Rattle.mars_table.specs.Calls.{IsShown}
use Rattle.mars_table.proofs.KeptLemmas.{kept_same, kept_push, now_pinned, pinned_row}
use Rattle.mars_table.proofs.table.Table.show.Goals as goal

pub invariant_of-self : goal.invariant_of-self
invariant_of-self c =
    kept_same c.self.inside c.reserve.new.history c.self.invariant c.in_err-reserve.ensures.items (omega (arith, c.self.invariant.room, c.in_err-reserve.ensures.no_less))

pub graph_of-requires : goal.graph_of-requires
graph_of-requires c = pinned_row c.self.inside c.self.invariant c.args.who c.args.handle.0 (now_pinned c.self.inside c.args.self.now c.args.who c.args.handle.0 c.self.invariant c.self.view_is c.requires)

pub invariant_of-self-2 : goal.invariant_of-self-2
invariant_of-self-2 c =
    let e : Entry = record { who = c.args.who; call = Show c.args.handle; reply = Shown c.in_ok-again.again } in
    let shown : IsShown c.self.inside.rows.table c.args.handle.0 (Shown c.in_ok-again.again) = record { tree = c.in_ok-tree.tree; is_tree = c.in_ok-tree.ensures.tree; is_of = c.in_ok-tree.ensures.row; is = ap Shown c.in_ok-again.ensures } in
    kept_push c.self.inside (record { rows = c.self.inside.rows; history = c.push_reserved.new.self; cap = c.self.inside.cap }) e c.self.invariant
    (now_pinned c.self.inside c.args.self.now c.args.who c.args.handle.0 c.self.invariant c.self.view_is c.requires) shown refl refl
    (c.push_reserved.ensures.items ∙ ap (λ xs. xs ++ e ∷ []) c.in_ok-reserve.ensures.items)
    (omega (arith, c.in_ok-reserve.ensures.room, c.push_reserved.ensures.len, c.push_reserved.ensures.capacity))
