use Rattle.std.proofs.Common.{arith}
use Rattle.mars_gate.proofs.ListLemmas.{all_taken}
use Rattle.mars_gate.proofs.crew.pair.Goals as goal

pub returns-clause-jobs : goal.returns-clause-jobs
returns-clause-jobs g c =
    all_taken (λ w. w.job) c.loop-job.workers.items c.reverse.new.self.items c.loop-job.jobs.items c.args.jobs.items c.loop-job.invariant.jobs
    (omega (arith, c.in_default.ensures.cases.0, c.loop-job.jobs.ok.0)) c.reverse.ensures.items

pub returns-clause-passes : goal.returns-clause-passes
returns-clause-passes g c =
    all_taken (λ w. w.pass) c.loop-job.workers.items c.reverse.new.self.items c.loop-job.passes.items c.args.passes.items c.loop-job.invariant.passes
    (omega (arith, c.in_default.ensures.cases.0, c.loop-job.invariant.count, c.loop-job.passes.ok.0)) c.reverse.ensures.items
