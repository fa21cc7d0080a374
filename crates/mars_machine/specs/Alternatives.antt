-- Alternatives: goals that are still open, under equations and inequations, with goals that wait.
use Rattle.std.specs.Prelude.{ℕ, List, [], length, map}
use Rattle.mars_tree.specs.Graph.{Node}
use Rattle.mars_term.specs.declared.clause.Goal.{Goal}
use Rattle.mars_term.specs.declared.clause.Goal.TheVariants as goal
use Rattle.mars_term.specs.declared.clause.Ask.{Ask}
use Rattle.mars_machine.specs.Subjects.{Subject, Renamed}
use Rattle.mars_machine.specs.Equations.{Equations}

-- a goal that is still open: a call of a term, or a cut down to a number of alternatives
pub data OpenGoal : Type 0 where
  Call : Subject → OpenGoal
  CutTo : ℕ → OpenGoal

-- goals, equations, inequations, and frozen pairs in the order of freezing; the number of the next unused variable is that
-- of the equations
pub record Alternative : Type 0 where
  pub goals : List OpenGoal
  pub equations : Equations
  pub differ : List (Subject × Subject)
  pub frozen : List (Subject × Subject)

-- a goal of a rule or an ask, whose variables are those from a number on, and whose cut goes down to a height
abbrev pub opened_goal : ℕ → ℕ → Goal → OpenGoal
opened_goal height first (goal.Call term) = Call (Renamed first term)
opened_goal height first goal.Cut = CutTo height

-- such goals, in order
abbrev pub opened_goals : ℕ → ℕ → List Goal → List OpenGoal
opened_goals height first goals = map (opened_goal height first) goals

-- the one alternative with which an ask starts: its goals, with cuts of height 0, no equation, no inequation, no frozen pair,
-- and the next variable after its own
abbrev pub ask_start : Ask → List (List Node) → Alternative
ask_start ask kept = record {
  goals = opened_goals 0 0 ask.goals;
  equations = record { kept = kept; next = length ask.vars; equal = [] };
  differ = [];
  frozen = [];
}
