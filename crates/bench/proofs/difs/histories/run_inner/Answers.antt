use Rattle.mars_store.proofs.CallerLemmas.{grows-refl, grows-trans}
use Rattle.mars_dif.proofs.CallerLemmas.{after-then, after-same}
use Rattle.bench.proofs.difs.histories.run_inner.Goals as goal

pub loop-init : goal.loop-init
loop-init c = record { serves = c.requires; grows = grows-refl c.args.world.now.store; after = after-same c.args.world.now.difs }

pub loop-preserved : goal.loop-preserved
loop-preserved c = record {
  serves = c.step.ensures.serves;
  grows = grows-trans c.args.world.now.store c.loop.world.store c.step.new.world.store c.loop.invariant.grows c.step.ensures.grows;
  after = after-then c.args.world.now.difs c.loop.world.difs c.step.new.world.difs c.loop.invariant.after c.step.ensures.after;
}

pub returns-in_err-step-clause-grows : goal.returns-in_err-step-clause-grows
returns-in_err-step-clause-grows c = grows-trans c.args.world.now.store c.loop.world.store c.step.new.world.store c.loop.invariant.grows c.step.ensures.grows

pub returns-in_err-step-clause-after : goal.returns-in_err-step-clause-after
returns-in_err-step-clause-after c = after-then c.args.world.now.difs c.loop.world.difs c.step.new.world.difs c.loop.invariant.after c.step.ensures.after
