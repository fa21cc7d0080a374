use Rattle.mars_store.proofs.CallerLemmas.{grows-refl, grows-trans}
use Rattle.mars_frozen.proofs.CallerLemmas.{later-all, later_follows}
use Rattle.rows_equations.proofs.freezing.run_all.Goals as goal

pub loop-word-init : goal.loop-word-init
loop-word-init c = record { ready = c.requires; grows = grows-refl c.args.world.now.store; later = later-all c.args.world.now.frozen }

pub loop-word-preserved : goal.loop-word-preserved
loop-word-preserved c = record {
  ready = c.in_ok-run.ensures.ready;
  grows = grows-trans c.args.world.now.store c.loop-word.world.store c.run.new.world.store c.loop-word.invariant.grows c.in_ok-run.ensures.grows;
  later = later_follows c.args.world.now.frozen c.loop-word.world.frozen c.run.new.world.frozen c.loop-word.invariant.later c.in_ok-run.ensures.later;
}
