-- Worked rows: small asks, what their steps say, and how they end.
use Rattle.std.specs.Prelude.{◌≡◌, ℕ, ◌≤◌, ◌-◌, List, [], ◌∷◌, length, drop, Some, None}
use Rattle.mars_tree.specs.Graph.{Node}
use Rattle.mars_store.specs.Solutions.{constant}
use Rattle.mars_term.specs.declared.term.Term.{Var}
use Rattle.mars_term.specs.declared.clause.Goal.TheVariants as goal
use Rattle.mars_term.specs.declared.clause.Ask.{Ask}
use Rattle.mars_term.specs.declared.clause.Version.TheVariants.{One}
use Rattle.mars_rules.specs.RuleLists.{RuleList}
use Rattle.mars_machine.specs.declared.built_in.BuiltIn.TheVariants.{Eq, Dif, Bound}
use Rattle.mars_machine.specs.declared.ending.Ending.TheVariants.{End, Enough, Stopped}
use Rattle.mars_machine.specs.Subjects.{Renamed}
use Rattle.mars_machine.specs.Equations.{Forces}
use Rattle.mars_machine.specs.Alternatives.{Alternative, Call, CutTo, ask_start, opened_goals}
use Rattle.mars_machine.specs.Steps.{Says, nothing, tree, answer, IsAskRun}
use Rattle.mars_machine.specs.Asks.{IsAskEnd}
use Rattle.mars_worked.specs.RowTerms.{atom, built_term, ask_of, one_variable, ask_equal, equal_made, ask_woken, woken_equations, first_said, second_said, third_said, woken_answer, ask_bound, bound_answer}

-- no rules, of version 1
abbrev pub no_rules : RuleList
no_rules = record { rules = []; version = One }

-- an ask ends so, with any budget from its number of steps on
abbrev pub EndsAfter : Ask → ℕ → List Says → Type 0
EndsAfter ask steps said = (budget : ℕ) → steps ≤ budget → IsAskEnd no_rules ask [] budget None steps said End

pub record DerivationRows : Type 0 where
  -- an ask of no goals: one step, which is its answer
  pub no_goals : EndsAfter (ask_of [] []) 1 (answer (ask_start (ask_of [] []) []) ∷ [])
  -- no answer is wanted: whatever is asked, this is the end before any step, and the budget doesn't matter
  pub none_wanted : (P : RuleList) (ask : Ask) (kept : List (List Node)) (budget : ℕ) → IsAskEnd P ask kept budget (Some 0) 0 [] Enough
  -- without a budget an ask stops at once
  pub no_budget : (P : RuleList) (ask : Ask) (kept : List (List Node)) → IsAskEnd P ask kept 0 None 0 [] Stopped
  -- `eq(x, aa)` stops at a budget of 1, and ends after 2 steps: the answer is a step
  pub equal_stops : IsAskEnd no_rules ask_equal [] 1 None 1 (nothing ∷ []) Stopped
  pub equal_ends : EndsAfter ask_equal 2 (nothing ∷ answer equal_made ∷ [])
  -- `dif(aa, aa)` fails at once
  pub dif_fails : EndsAfter (ask_of [] (built_term Dif (atom 13 ∷ atom 13 ∷ []) ∷ [])) 1 (nothing ∷ [])
  -- `dif(x, aa) eq(x, aa)` fails at its second step
  pub dif_breaks : EndsAfter (ask_of one_variable (built_term Dif (Var 0 ∷ atom 13 ∷ []) ∷ built_term Eq (Var 0 ∷ atom 13 ∷ []) ∷ [])) 2 (nothing ∷ nothing ∷ [])
  -- two frozen goals wake in the order of freezing, before the goal that was after the equation
  pub woken : EndsAfter ask_woken 7 (nothing ∷ nothing ∷ nothing ∷ tree woken_equations first_said ∷ tree woken_equations second_said ∷ tree woken_equations third_said ∷ answer woken_answer ∷ [])
  pub said_first : Forces woken_equations first_said [] (constant 13)
  pub said_second : Forces woken_equations second_said [] (constant 14)
  pub said_third : Forces woken_equations third_said [] (constant 16)
  -- a variable is free before it is known, and bound after
  pub free_then_bound : EndsAfter ask_bound 4 (nothing ∷ nothing ∷ nothing ∷ answer bound_answer ∷ [])
  -- `bound(x)` fails
  pub bound_fails : EndsAfter (ask_of one_variable (built_term Bound (Var 0 ∷ []) ∷ [])) 1 (nothing ∷ [])
  -- a cut has as height the number of alternatives after the call, also where that call was woken ..
  pub cut_height : opened_goals 1 3 (goal.Call (Var 0) ∷ goal.Cut ∷ []) ≡ Call (Renamed 3 (Var 0)) ∷ CutTo 1 ∷ []
  -- .. and leaves so many, the last ones
  pub cut_leaves : (first second last : Alternative) → drop (length (first ∷ second ∷ last ∷ []) - 1) (first ∷ second ∷ last ∷ []) ≡ last ∷ []
