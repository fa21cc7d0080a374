use Rattle.std.proofs.Common.{refl, arith, ap, ◌∙◌, ◌++◌, ◌∷◌, [], length}
use Rattle.mars_rows.specs.Object.{TableObject}
use Rattle.mars_table.specs.declared.entry.Entry.{Entry}
use Rattle.mars_table.specs.declared.entry.Call.TheVariants.{Sweep}
use Rattle.mars_table.specs.declared.entry.Reply.TheVariants.{Swept}
use Rattle.mars_table.proofs.KeptLemmas.{kept_same, kept_push}
use Rattle.mars_table.proofs.table.Table.sweep.Goals as goal

pub invariant_of-self : goal.invariant_of-self
invariant_of-self c =
    kept_same c.self.inside c.reserve.new.history c.self.invariant c.in_err-reserve.ensures.items (omega (arith, c.self.invariant.room, c.in_err-reserve.ensures.no_less))

pub invariant_of-self-2 : goal.invariant_of-self-2
invariant_of-self-2 c =
    let e : Entry = record { who = c.args.who; call = Sweep; reply = Swept c.in_ok-gone.gone } in
    kept_push c.self.inside (record { rows = c.sweep.new.self; history = c.push_reserved.new.self; cap = c.self.inside.cap }) e c.self.invariant tt
    (ap Swept c.in_ok-gone.ensures.count) refl c.in_ok-gone.ensures.table
    (c.push_reserved.ensures.items ∙ ap (λ xs. xs ++ e ∷ []) c.in_ok-reserve.ensures.items)
    (omega (arith, c.in_ok-reserve.ensures.room, c.push_reserved.ensures.len, c.push_reserved.ensures.capacity, ap (λ (t : TableObject). length t.pins) c.in_ok-gone.ensures.table))
