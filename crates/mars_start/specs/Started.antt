-- When an ask begins in a store: the store represents its one first alternative.
use Rattle.std.specs.Prelude.{◌≡◌, ℕ, List, length}
use Rattle.mars_tree.specs.Graph.{Node}
use Rattle.mars_store.specs.System.{System, IsSystem}
use Rattle.mars_term.specs.declared.clause.Ask.{Ask}
use Rattle.mars_rules.specs.PairedLists.{AllPaired}
use Rattle.mars_goals.specs.declared.cells.Pending.{Pending}
use Rattle.mars_goals.specs.declared.cells.Pending.TheVariants as pending
use Rattle.mars_machine.specs.Equations.{Equations}
use Rattle.mars_machine.specs.Alternatives.{OpenGoal, Call, CutTo, ask_start}
use Rattle.mars_machine.specs.TermAnswers.{ask_variables}
use Rattle.mars_bridge.specs.Represents.{Represents, Denotes, DenoteAll}
use Rattle.mars_bridge.specs.Scoped.{UsesBelow, IsScoped}

-- a goal of a list is an open one of an ask's start: for a call a node that denotes it, over variables that are in use, and
-- for a cut, whose height is 0, one that keeps no choice point
abbrev pub IsFirstGoal : Equations → System → List ℕ → OpenGoal → Pending → Type 0
IsFirstGoal e s vars (Call subject) (pending.Call node) = Denotes e s vars node subject × UsesBelow e.next subject
IsFirstGoal e s vars (CutTo height) (pending.Cut depth) = (height ≡ 0) × (depth ≡ 0)
IsFirstGoal e s vars (CutTo height) (pending.Call node) = ⊥
IsFirstGoal e s vars (Call subject) (pending.Cut depth) = ⊥

-- the store, with a node for each variable of the ask, represents the equations of the ask's start, and has its goals
pub record IsStarted (ask : Ask) (kept : List (List Node)) (s : System) (vars : List ℕ) (goals : List Pending) : Type 0 where
  pub system : IsSystem s
  pub represents : Represents (ask_start ask kept).equations s vars
  pub scoped : IsScoped (ask_start ask kept).equations
  pub variables : DenoteAll (ask_start ask kept).equations s vars vars (ask_variables (length ask.vars))
  pub goals_are : AllPaired (IsFirstGoal (ask_start ask kept).equations s vars) (ask_start ask kept).goals goals
