use Rattle.std.proofs.Common.{◌∙◌}
use Rattle.rows_equations.proofs.Serving.{store-back, serves-back}
use Rattle.rows_equations.proofs.scripts.run_try.Goals as goal

pub undo_to-requires-clause-store : goal.undo_to-requires-clause-store
undo_to-requires-clause-store c =
    (store-back c.args.world.now.store c.run_each.new.world.store c.mark-store.result c.mark-store.ensures.system c.mark-store.ensures.mark c.run_each.ensures.store).0

pub returns : goal.returns
returns c =
    serves-back c.args.world.now.difs c.undo_to.new.self.difs c.args.world.now.store c.undo_to.new.self.store c.requires
    (c.undo_to.ensures.store ∙ (store-back c.args.world.now.store c.run_each.new.world.store c.mark-store.result c.mark-store.ensures.system c.mark-store.ensures.mark c.run_each.ensures.store).1)
    (c.undo_to.ensures.difs ∙ (c.run_each.ensures.difs c.mark-difs.result c.mark-difs.ensures.made).1 ∙ c.mark-difs.ensures.back)
