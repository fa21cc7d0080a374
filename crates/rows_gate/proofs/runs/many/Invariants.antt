use Rattle.std.proofs.Common.{◌≡◌, vec_len}
use Rattle.mars_gate.specs.Jobs.{AreNewJobs}
use Rattle.rows_gate.specs.Keepers.{job_of}
use Rattle.rows_gate.proofs.runs.many.Given as goal

abbrev pub invariant-loop-who : goal.invariant-loop-who
invariant-loop-who l = record {
  new : AreNewJobs job_of l.keepers.items;
  count : vec_len l.keepers ≡ l.who;
}
