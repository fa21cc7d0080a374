-- What is true of every machine.
use Rattle.std.specs.Prelude.{◌≡◌, ℕ, Bool, false, List, length, All, Option}
use Rattle.mars_tree.specs.Graph.{Node}
use Rattle.mars_term.specs.declared.clause.Ask.{Ask}
use Rattle.mars_term.specs.Clauses.{IsRule}
use Rattle.mars_rules.specs.RuleLists.{RuleList}
use Rattle.mars_goals.specs.declared.choice.Choice.{Choice}
use Rattle.mars_machine.specs.Alternatives.{Alternative}
use Rattle.mars_machine.specs.Steps.{Says, IsAskRun}
use Rattle.mars_memory.specs.Memory.{MemoryParts}
use Rattle.mars_run.specs.States.{IsMachineState}

-- the run of an ask came, with so many steps, to the state that is here
pub record IsRunState (P : RuleList) (ask : Ask) (kept : List (List Node)) (steps : ℕ) (asked : List ℕ) (m : MemoryParts) (choices : List Choice) (present : Option ℕ) : Type 0 where
  pub said : List Says
  pub state : List Alternative
  pub run : IsAskRun P ask kept steps said state
  pub is : IsMachineState asked P.rules m choices present state

-- the rules are well formed, each variable of the ask has a node, and a machine that has memory is at the state of its run
pub record IsRunning (P : RuleList) (ask : Ask) (kept : List (List Node)) (steps : ℕ) (broken : Bool) (asked : List ℕ) (m : MemoryParts) (choices : List Choice) (present : Option ℕ) : Type 0 where
  pub rules_are : All IsRule P.rules
  pub one_each : length ask.vars ≡ length asked
  pub reached : broken ≡ false → IsRunState P ask kept steps asked m choices present
