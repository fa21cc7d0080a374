use Rattle.std.proofs.Common.{◌≡◌, ◌++◌, map, vec_len}
use Rattle.std.specs.Prelude.{reverse}
use Rattle.mars_gate.proofs.crew.part.Given as goal

-- what is left, and then what was taken, the last one first
abbrev pub invariant-loop-worker : goal.invariant-loop-worker
invariant-loop-worker g l = record {
  jobs : map (λ w. w.job) l.workers.items ++ reverse l.jobs.items ≡ map (λ w. w.job) l.fn.workers.items;
  passes : map (λ w. w.pass) l.workers.items ++ reverse l.passes.items ≡ map (λ w. w.pass) l.fn.workers.items;
}

abbrev pub decreases-loop-worker : goal.decreases-loop-worker
decreases-loop-worker g l = vec_len l.workers
