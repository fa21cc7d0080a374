use Rattle.std.proofs.Common.{◌<◌, length, Some, set, ap, ◌∙◌, arith}
use Rattle.mars_store.proofs.Registered.{held-set, registers-count}
use Rattle.mars_store.proofs.registers.Registers.set.Goals as goal

pub returns : goal.returns
returns c =
    let within : c.args.place < c.self.inside.len = omega (arith, registers-count c.self.inside.round c.self.inside.len c.self.inside.slots.items c.self.invariant.room, ap length c.self.view_is) in
    held-set c.self.inside.round c.self.inside.len c.args.place c.args.node c.self.inside.slots.items within ∙ ap (λ nodes. set nodes c.args.place (Some c.args.node)) c.self.view_is
