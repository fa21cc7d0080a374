use Rattle.rows_equations.proofs.Serving.{store-then, keeper-then}
use Rattle.rows_equations.proofs.scripts.run_each.Goals as goal

pub returns-in_err-run-clause-difs : goal.returns-in_err-run-clause-difs
returns-in_err-run-clause-difs c = keeper-then c.args.world.now.difs c.loop-kid.world.difs c.run.new.world.difs c.loop-kid.invariant.difs c.run.ensures.difs

pub loop-kid-preserved : goal.loop-kid-preserved
loop-kid-preserved c = record {
  serves = c.run.ensures.serves;
  store = store-then c.args.world.now.store c.loop-kid.world.store c.run.new.world.store c.loop-kid.invariant.store c.run.ensures.store;
  difs = keeper-then c.args.world.now.difs c.loop-kid.world.difs c.run.new.world.difs c.loop-kid.invariant.difs c.run.ensures.difs;
}
