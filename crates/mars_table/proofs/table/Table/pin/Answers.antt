use Rattle.std.proofs.Common.{refl, arith, ap, ◌∙◌, ◌++◌, ◌∷◌, [], length}
use Rattle.mars_rows.specs.Object.{TableObject}
use Rattle.mars_table.specs.declared.entry.Entry.{Entry}
use Rattle.mars_table.specs.declared.entry.Call.TheVariants.{Pin}
use Rattle.mars_table.specs.declared.entry.Reply.TheVariants.{Pinned}
use Rattle.mars_table.proofs.KeptLemmas.{kept_same, kept_push, now_pinned, pinned_row, more_pins}
use Rattle.mars_table.proofs.table.Table.pin.Goals as goal

pub invariant_of-self : goal.invariant_of-self
invariant_of-self c =
    kept_same c.self.inside c.reserve.new.history c.self.invariant c.in_err-reserve.ensures.items (omega (arith, c.self.invariant.room, c.in_err-reserve.ensures.no_less))

pub pin-requires : goal.pin-requires
pin-requires c = pinned_row c.self.inside c.self.invariant c.args.who c.args.handle.0 (now_pinned c.self.inside c.args.self.now c.args.who c.args.handle.0 c.self.invariant c.self.view_is c.requires)

pub invariant_of-self-2 : goal.invariant_of-self-2
invariant_of-self-2 c =
    let e : Entry = record { who = c.args.who; call = Pin c.args.handle; reply = Pinned } in
    kept_push c.self.inside (record { rows = c.pin.new.self; history = c.push_reserved.new.self; cap = c.self.inside.cap }) e c.self.invariant
    (now_pinned c.self.inside c.args.self.now c.args.who c.args.handle.0 c.self.invariant c.self.view_is c.requires) refl refl c.in_ok-pin.ensures.pinned
    (c.push_reserved.ensures.items ∙ ap (λ xs. xs ++ e ∷ []) c.in_ok-reserve.ensures.items)
    (omega (arith, c.in_ok-reserve.ensures.room, c.push_reserved.ensures.len, c.push_reserved.ensures.capacity, ap (λ (t : TableObject). length t.pins) c.in_ok-pin.ensures.pinned, more_pins c.self.inside.rows.table.pins (c.args.who, c.args.handle.0)))
