use Rattle.mars_gate.specs.WorkersInside.{KeepsWork}
use Rattle.mars_gate.proofs.worker.work.Given as goal

abbrev pub invariant-loop : goal.invariant-loop
invariant-loop g l = KeepsWork g.J.Job.job g.J.Job.Lacks g.J.Job.Later l.fn.book l.fn.worker.job l.fn.worker.pass l.worker.job l.worker.pass
