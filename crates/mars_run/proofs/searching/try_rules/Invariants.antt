use Rattle.std.proofs.Common.{◌≡◌, ◌≤◌, ◌-◌, ℕ, List, length}
use Rattle.mars_machine.specs.Alternatives.{Alternative}
use Rattle.mars_run.specs.Choices.{IsChoiceOf}
use Rattle.mars_run.proofs.searching.try_rules.Given as goal

-- the memory is as before, and the call has no child by the rules that were tried
abbrev pub invariant-rules : goal.invariant-rules
invariant-rules l = record {
  memory : l.memory ≡ l.fn.memory;
  within : l.from ≤ length l.rules.rules;
  left : (asked : List ℕ) (groups : List (List Alternative)) (children : List Alternative) → length groups ≡ l.depth
      → IsChoiceOf asked l.rules.rules l.fn.memory groups l.choice.call l.choice.rest l.choice.from children
      → IsChoiceOf asked l.rules.rules l.fn.memory groups l.choice.call l.choice.rest l.from children;
}

abbrev pub decreases-rules : goal.decreases-rules
decreases-rules l = length l.rules.rules - l.from
