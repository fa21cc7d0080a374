use Rattle.mars_dif.proofs.CallerLemmas.{after-then}
use Rattle.bench.proofs.difs.workloads.bind_one.Goals as goal

pub returns-in_err-recheck-clause-after : goal.returns-in_err-recheck-clause-after
returns-in_err-recheck-clause-after c = after-then c.args.world.now.difs c.equate.new.self.difs c.recheck.new.self.difs c.equate.ensures.after c.recheck.ensures.after

pub returns-clause-after : goal.returns-clause-after
returns-clause-after c = after-then c.args.world.now.difs c.equate.new.self.difs c.recheck.new.self.difs c.equate.ensures.after c.recheck.ensures.after
