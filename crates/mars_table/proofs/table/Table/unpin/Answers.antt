use Rattle.std.proofs.Common.{refl, arith, ap, length}
use Rattle.mars_rows.specs.Object.{TableObject}
use Rattle.mars_table.specs.declared.entry.Entry.{Entry}
use Rattle.mars_table.specs.declared.entry.Call.TheVariants.{Drop}
use Rattle.mars_table.specs.declared.entry.Reply.TheVariants.{Dropped}
use Rattle.mars_table.proofs.KeptLemmas.{kept_push, now_pinned, fewer_pins}
use Rattle.mars_table.proofs.table.Table.unpin.Goals as goal

pub invariant_of-self : goal.invariant_of-self
invariant_of-self c =
    let e : Entry = record { who = c.args.who; call = Drop c.args.handle; reply = Dropped } in
    let pinned = now_pinned c.self.inside c.args.self.now c.args.who c.args.handle.0 c.self.invariant c.self.view_is c.requires in
    kept_push c.self.inside (record { rows = c.unpin.new.self; history = c.push_reserved.new.self; cap = c.self.inside.cap }) e c.self.invariant pinned refl refl c.unpin.ensures c.push_reserved.ensures.items
    (omega (arith, c.self.invariant.room, c.push_reserved.ensures.len, c.push_reserved.ensures.capacity, ap (λ (t : TableObject). length t.pins) c.unpin.ensures, fewer_pins c.args.who c.args.handle.0 c.self.inside.rows.table.pins pinned))
