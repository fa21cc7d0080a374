use Rattle.std.proofs.Common.{refl, arith, ap, ◌∙◌, ◌++◌, ◌∷◌, [], length}
use Rattle.mars_table.specs.declared.entry.Entry.{Entry}
use Rattle.mars_table.specs.declared.entry.Call.TheVariants.{Count}
use Rattle.mars_table.specs.declared.entry.Reply.TheVariants.{Counted}
use Rattle.mars_table.proofs.KeptLemmas.{kept_same, kept_push}
use Rattle.mars_table.proofs.table.Table.count.Goals as goal

pub invariant_of-self : goal.invariant_of-self
invariant_of-self c =
    kept_same c.self.inside c.reserve.new.history c.self.invariant c.in_err-reserve.ensures.items (omega (arith, c.self.invariant.room, c.in_err-reserve.ensures.no_less))

pub invariant_of-self-2 : goal.invariant_of-self-2
invariant_of-self-2 c =
    let e : Entry = record { who = c.args.who; call = Count; reply = Counted c.counts-rows.result.0 c.counts-rows.result.1 } in
    kept_push c.self.inside (record { rows = c.self.inside.rows; history = c.push_reserved.new.self; cap = c.self.inside.cap }) e c.self.invariant tt
    (ap (λ r. Counted r c.counts-rows.result.1) c.counts-rows.ensures.rows ∙ ap (Counted (length c.self.inside.rows.table.rows)) c.counts-rows.ensures.pins) refl refl
    (c.push_reserved.ensures.items ∙ ap (λ xs. xs ++ e ∷ []) c.in_ok-reserve.ensures.items)
    (omega (arith, c.in_ok-reserve.ensures.room, c.push_reserved.ensures.len, c.push_reserved.ensures.capacity))
