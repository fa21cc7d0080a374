-- Laws: the run of an ask is determined by the number of its steps, and so is its end.
use Rattle.std.specs.Prelude.{◌≡◌, ℕ, ◌≤◌, List, [], ◌∷◌, Option, None}
use Rattle.mars_tree.specs.Graph.{Node}
use Rattle.mars_term.specs.declared.clause.Ask.{Ask}
use Rattle.mars_rules.specs.RuleLists.{RuleList}
use Rattle.mars_machine.specs.declared.ending.Ending.{Ending}
use Rattle.mars_machine.specs.declared.ending.Ending.TheVariants.{End, Stopped}
use Rattle.mars_machine.specs.Alternatives.{Alternative, ask_start}
use Rattle.mars_machine.specs.StepLaws.{IsAlive}
use Rattle.mars_machine.specs.Steps.{Says, IsAskRun}
use Rattle.mars_machine.specs.Asks.{IsAskEnd}

-- the alternative with which an ask starts has a solution
abbrev pub StartIsSolvable : Type 0
StartIsSolvable = (ask : Ask) (kept : List (List Node)) → IsAlive (ask_start ask kept)

-- what the first steps said, and the state after them, is determined by how many they are
abbrev pub DerivationIsOne : Type 0
DerivationIsOne = (P : RuleList) (ask : Ask) (kept : List (List Node)) (steps : ℕ) (said others : List Says) (state other : List Alternative)
    → IsAskRun P ask kept steps said state → IsAskRun P ask kept steps others other → (said ≡ others) × (state ≡ other)

-- an ask ends after one number of steps, in one way, and what was said by then is determined
abbrev pub EndIsOne : Type 0
EndIsOne = (P : RuleList) (ask : Ask) (kept : List (List Node)) (budget : ℕ) (most : Option ℕ) (steps more : ℕ) (said others : List Says) (ending another : Ending)
    → IsAskEnd P ask kept budget most steps said ending → IsAskEnd P ask kept budget most more others another → (steps ≡ more) × (said ≡ others) × (ending ≡ another)

-- an ask without a number of answers ends where its run comes to a state without alternatives ..
abbrev pub EndsWithoutAlternatives : Type 0
EndsWithoutAlternatives = (P : RuleList) (ask : Ask) (kept : List (List Node)) (budget steps : ℕ) (said : List Says) → IsAskRun P ask kept steps said [] → steps ≤ budget
    → IsAskEnd P ask kept budget None steps said End

-- .. and stops where alternatives are left with the budget used up
abbrev pub StopsAtBudget : Type 0
StopsAtBudget = (P : RuleList) (ask : Ask) (kept : List (List Node)) (budget : ℕ) (said : List Says) (first : Alternative) (rest : List Alternative) → IsAskRun P ask kept budget said (first ∷ rest)
    → IsAskEnd P ask kept budget None budget said Stopped
