use Rattle.std.proofs.Common.{◌≡◌, ◌-◌}
use Rattle.mars_run.specs.Asking.{at_steps, IsAsking}
use Rattle.mars_run.proofs.machine.Machine.run.Given as goal

abbrev pub invariant-steps : goal.invariant-steps
invariant-steps l = record {
  same : l.self ≡ at_steps l.fn.self l.self.steps;
  asking : IsAsking l.self l.budget l.most l.answers l.said;
}

abbrev pub decreases-steps : goal.decreases-steps
decreases-steps l = l.budget - l.self.steps
