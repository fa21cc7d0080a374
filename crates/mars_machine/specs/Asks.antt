-- After how many steps an ask ends, and how.
use Rattle.std.specs.Prelude.{◌≡◌, ◌≢◌, ℕ, ◌+◌, ◌<◌, ◌≤◌, List, [], ◌∷◌, Option, Some}
use Rattle.mars_tree.specs.Graph.{Node}
use Rattle.mars_term.specs.declared.clause.Ask.{Ask}
use Rattle.mars_rules.specs.RuleLists.{RuleList}
use Rattle.mars_machine.specs.declared.ending.Ending.{Ending}
use Rattle.mars_machine.specs.declared.ending.Ending.TheVariants.{End, Enough, Stopped}
use Rattle.mars_machine.specs.Alternatives.{Alternative}
use Rattle.mars_machine.specs.Steps.{Says, nothing, tree, text, answer, IsAskRun}

-- how many of the sayings are answers
abbrev pub answer_count : List Says → ℕ
answer_count [] = 0
answer_count (nothing ∷ said) = answer_count said
answer_count (tree e subject ∷ said) = answer_count said
answer_count (text string ∷ said) = answer_count said
answer_count (answer alternative ∷ said) = answer_count said + 1

-- a number of answers was asked for, and so many came
abbrev pub HasEnough : Option ℕ → List Says → Type 0
HasEnough most said = most ≡ Some (answer_count said)

-- with so many steps done an ask ends: with enough answers, else with no alternative left, else with the budget used up
abbrev pub EndsNow : ℕ → Option ℕ → ℕ → List Says → List Alternative → Ending → Type 0
EndsNow budget most steps said state Enough = HasEnough most said
EndsNow budget most steps said state End = (state ≡ []) × (HasEnough most said → ⊥)
EndsNow budget most steps said state Stopped = (steps ≡ budget) × (state ≢ []) × (HasEnough most said → ⊥)

-- the end of an ask with a budget, and perhaps a number of answers: the least number of steps, at most the budget, with which
-- it ends, what was said by then, and in which way it ends
pub record IsAskEnd (P : RuleList) (ask : Ask) (kept : List (List Node)) (budget : ℕ) (most : Option ℕ) (steps : ℕ) (said : List Says) (ending : Ending) : Type 0 where
  pub state : List Alternative
  pub run : IsAskRun P ask kept steps said state
  pub within : steps ≤ budget
  pub ends : EndsNow budget most steps said state ending
  pub least : (fewer : ℕ) (earlier : List Says) (before : List Alternative) (way : Ending) → fewer < steps → IsAskRun P ask kept fewer earlier before
      → EndsNow budget most fewer earlier before way → ⊥
