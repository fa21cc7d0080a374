use Rattle.std.proofs.Common.{◌∙◌, sym, subst}
use Rattle.mars_dif.specs.Kept.{IsAfter}
use Rattle.mars_dif.proofs.CallerLemmas.{after-same}
use Rattle.bench.proofs.Serving.{store-back, keeper-back, serves-back, grows-same}
use Rattle.bench.proofs.difs.histories.take_back_inner.Goals as goal

pub undo_to-requires-clause-store : goal.undo_to-requires-clause-store
undo_to-requires-clause-store c = (store-back c.args.world.now.store c.run_inner.new.world.store c.mark-store.result c.mark-store.ensures.system c.mark-store.ensures.mark c.run_inner.ensures.grows).0

pub undo_to-requires-clause-difs : goal.undo_to-requires-clause-difs
undo_to-requires-clause-difs c = (keeper-back c.args.world.now.difs c.run_inner.new.world.difs c.mark-difs.result c.mark-difs.ensures.made c.mark-difs.ensures.back c.run_inner.ensures.after).0

pub returns-clause-serves : goal.returns-clause-serves
returns-clause-serves c =
    serves-back c.args.world.now.difs c.undo_to.new.self.difs c.args.world.now.store c.undo_to.new.self.store c.requires
    (c.undo_to.ensures.store ∙ (store-back c.args.world.now.store c.run_inner.new.world.store c.mark-store.result c.mark-store.ensures.system c.mark-store.ensures.mark c.run_inner.ensures.grows).1)
    (c.undo_to.ensures.difs ∙ (keeper-back c.args.world.now.difs c.run_inner.new.world.difs c.mark-difs.result c.mark-difs.ensures.made c.mark-difs.ensures.back c.run_inner.ensures.after).1)

pub returns-clause-grows : goal.returns-clause-grows
returns-clause-grows c = grows-same c.args.world.now.store c.undo_to.new.self.store (c.undo_to.ensures.store ∙ (store-back c.args.world.now.store c.run_inner.new.world.store c.mark-store.result c.mark-store.ensures.system c.mark-store.ensures.mark c.run_inner.ensures.grows).1)

pub returns-clause-after : goal.returns-clause-after
returns-clause-after c = subst (λ k. IsAfter c.args.world.now.difs k) (sym (c.undo_to.ensures.difs ∙ (keeper-back c.args.world.now.difs c.run_inner.new.world.difs c.mark-difs.result c.mark-difs.ensures.made c.mark-difs.ensures.back c.run_inner.ensures.after).1)) (after-same c.args.world.now.difs)
