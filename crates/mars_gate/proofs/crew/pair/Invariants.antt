use Rattle.std.proofs.Common.{◌≡◌, ◌++◌, map, vec_len}
use Rattle.std.specs.Prelude.{reverse}
use Rattle.mars_gate.proofs.crew.pair.Given as goal

-- what is left, and then what was taken, the last one first
abbrev pub invariant-loop-job : goal.invariant-loop-job
invariant-loop-job g l = record {
  count : vec_len l.jobs ≡ vec_len l.passes;
  jobs : l.jobs.items ++ reverse (map (λ w. w.job) l.workers.items) ≡ l.fn.jobs.items;
  passes : l.passes.items ++ reverse (map (λ w. w.pass) l.workers.items) ≡ l.fn.passes.items;
}

abbrev pub decreases-loop-job : goal.decreases-loop-job
decreases-loop-job g l = vec_len l.jobs
