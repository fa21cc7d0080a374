use Rattle.std.proofs.Common.{◌∙◌}
use Rattle.bench.proofs.Serving.{store-back, keeper-back, serves-back}
use Rattle.bench.proofs.difs.histories.take_back_middle.Goals as goal

pub undo_to-requires-clause-store : goal.undo_to-requires-clause-store
undo_to-requires-clause-store c = (store-back c.args.world.now.store c.run_middle.new.world.store c.mark-store.result c.mark-store.ensures.system c.mark-store.ensures.mark c.run_middle.ensures.grows).0

pub undo_to-requires-clause-difs : goal.undo_to-requires-clause-difs
undo_to-requires-clause-difs c = (keeper-back c.args.world.now.difs c.run_middle.new.world.difs c.mark-difs.result c.mark-difs.ensures.made c.mark-difs.ensures.back c.run_middle.ensures.after).0

pub returns : goal.returns
returns c =
    serves-back c.args.world.now.difs c.undo_to.new.self.difs c.args.world.now.store c.undo_to.new.self.store c.requires
    (c.undo_to.ensures.store ∙ (store-back c.args.world.now.store c.run_middle.new.world.store c.mark-store.result c.mark-store.ensures.system c.mark-store.ensures.mark c.run_middle.ensures.grows).1)
    (c.undo_to.ensures.difs ∙ (keeper-back c.args.world.now.difs c.run_middle.new.world.difs c.mark-difs.result c.mark-difs.ensures.made c.mark-difs.ensures.back c.run_middle.ensures.after).1)
