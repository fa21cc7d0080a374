use Rattle.std.proofs.Common.{refl, arith, sym, subst, ap, ◌∙◌, ◌++◌, ◌∷◌, [], length}
use Rattle.mars_rows.specs.Object.{TableObject}
use Rattle.mars_rows.specs.declared.store.Added.{Added}
use Rattle.mars_rows.specs.RowsObject.{AddsTree}
use Rattle.mars_table.specs.declared.entry.Entry.{Entry}
use Rattle.mars_table.specs.declared.entry.Call.TheVariants.{Intern}
use Rattle.mars_table.specs.declared.entry.Reply.TheVariants.{Kept, Full}
use Rattle.mars_table.proofs.KeptLemmas.{kept_same, kept_push, kept_tree, full_tree, kept_limit, next_small, pins_after, applied}
use Rattle.mars_table.proofs.table.Table.keep.Goals as goal

pub invariant_of-self : goal.invariant_of-self
invariant_of-self c =
    kept_same c.self.inside c.reserve.new.history c.self.invariant c.in_err-reserve.ensures.items (omega (arith, c.self.invariant.room, c.in_err-reserve.ensures.no_less))

pub add-requires : goal.add-requires
add-requires c =
    next_small c.self.inside c.self.invariant (omega (arith, c.len-entries.ensures, c.len-entries.type_inv, c.reserve.new.history.ok.0, ap length c.in_ok-reserve.ensures.items))

pub invariant_of-self-in-Root : goal.invariant_of-self-in-Root
invariant_of-self-in-Root c =
    let e : Entry = record { who = c.args.who; call = Intern c.args.tree; reply = Kept (record { 0 = c.in-Root.root }) } in
    let added = subst (λ (a : Added). AddsTree a c.self.inside.rows.table c.args.tree c.add.new.self.table) c.in-Root.is c.in_ok-root.ensures.added in
    let kept = kept_tree c.self.inside.rows.table c.add.new.self.table c.args.who c.in-Root.root c.args.tree added in
    kept_push c.self.inside (record { rows = c.pin.new.self; history = c.push_reserved.new.self; cap = c.self.inside.cap }) e c.self.invariant c.requires kept.1 refl
    (c.in_ok-pin-in-Root.ensures.pinned ∙ sym kept.0)
    (c.push_reserved.ensures.items ∙ ap (λ xs. xs ++ e ∷ []) c.in_ok-reserve.ensures.items)
    (omega (
      arith,
      c.in_ok-reserve.ensures.room,
      c.push_reserved.ensures.len,
      c.push_reserved.ensures.capacity,
      ap (λ (t : TableObject). length t.pins) (c.in_ok-pin-in-Root.ensures.pinned ∙ sym kept.0),
      pins_after c.self.inside.rows.table c.args.who c.args.tree,
    ))

pub invariant_of-self-in-Full : goal.invariant_of-self-in-Full
invariant_of-self-in-Full c =
    let e : Entry = record { who = c.args.who; call = Intern c.args.tree; reply = Full c.in-Full.rows c.in-Full.fresh c.self.inside.cap } in
    let added = subst (λ (a : Added). AddsTree a c.self.inside.rows.table c.args.tree c.add.new.self.table) c.in-Full.is c.in_ok-root.ensures.added in
    let full = full_tree c.self.inside.rows.table c.args.who c.in-Full.rows c.in-Full.fresh c.args.tree added.0 in
    kept_push c.self.inside (record { rows = c.add.new.self; history = c.push_reserved-in-Full.new.self; cap = c.self.inside.cap }) e c.self.invariant c.requires
    (ap (Full c.in-Full.rows c.in-Full.fresh) (sym (kept_limit c.self.inside c.self.invariant)) ∙ full.1) refl
    (added.1 ∙ sym full.0)
    (c.push_reserved-in-Full.ensures.items ∙ ap (λ xs. xs ++ e ∷ []) c.in_ok-reserve.ensures.items)
    (omega (arith, c.in_ok-reserve.ensures.room, c.push_reserved-in-Full.ensures.len, c.push_reserved-in-Full.ensures.capacity, ap (λ (t : TableObject). length t.pins) added.1))

pub returns-in-Full-clause-applied : goal.returns-in-Full-clause-applied
returns-in-Full-clause-applied c =
    let e : Entry = record { who = c.args.who; call = Intern c.args.tree; reply = Full c.in-Full.rows c.in-Full.fresh c.self.inside.cap } in
    let added = subst (λ (a : Added). AddsTree a c.self.inside.rows.table c.args.tree c.add.new.self.table) c.in-Full.is c.in_ok-root.ensures.added in
    let full = full_tree c.self.inside.rows.table c.args.who c.in-Full.rows c.in-Full.fresh c.args.tree added.0 in
    applied c.self.inside c.args.self.now c.push_reserved-in-Full.new.self.items e c.self.invariant c.self.view_is
    (ap (Full c.in-Full.rows c.in-Full.fresh) (sym (kept_limit c.self.inside c.self.invariant)) ∙ full.1)
    (c.push_reserved-in-Full.ensures.items ∙ ap (λ xs. xs ++ e ∷ []) c.in_ok-reserve.ensures.items)
