-- When a memory holds an alternative: its nodes denote the alternative's terms, and its choice points the cuts' heights.
use Rattle.std.specs.Prelude.{◌≡◌, ℕ, ◌-◌, ◌≤◌, List, [], ◌∷◌, ◌++◌, length, drop, All}
use Rattle.mars_store.specs.System.{System, IsSystem}
use Rattle.mars_dif.specs.Kept.{IsKeeper}
use Rattle.mars_frozen.specs.Freezing.{CanWake, waiting_pairs}
use Rattle.mars_goals.specs.declared.cells.Pending.{Pending}
use Rattle.mars_goals.specs.declared.cells.Pending.TheVariants as pending
use Rattle.mars_machine.specs.Subjects.{Subject}
use Rattle.mars_machine.specs.Equations.{Equations, AreSolvable}
use Rattle.mars_machine.specs.Alternatives.{OpenGoal, Call, CutTo, Alternative}
use Rattle.mars_machine.specs.TermAnswers.{ask_variables}
use Rattle.mars_bridge.specs.Represents.{Represents, Denotes, DenotePairs, DenoteAll}
use Rattle.mars_bridge.specs.Scoped.{UsesBelow, PairUsesBelow, IsScoped}
use Rattle.mars_memory.specs.Memory.{MemoryParts}

-- the alternatives that choice points have left, the latest choice point first
abbrev pub alternatives_of : List (List Alternative) → List Alternative
alternatives_of [] = []
alternatives_of (group ∷ groups) = group ++ alternatives_of groups

-- how many alternatives the earliest choice points have left, so many of these
abbrev pub height_of : List (List Alternative) → ℕ → ℕ
height_of groups depth = length (alternatives_of (drop (length groups - depth) groups))

-- goals of a machine denote open goals: a node for each call, and for each height a number of choice points, which never
-- rises from one cut to the next
pub data DenoteGoals (e : Equations) (system : System) (vars : List ℕ) (groups : List (List Alternative)) : ℕ → List Pending → List OpenGoal → Type 0 where
  none : {limit : ℕ} → DenoteGoals e system vars groups limit [] []
  calls : {limit node : ℕ} {call : Subject} {more : List Pending} {goals : List OpenGoal}
      → Denotes e system vars node call → UsesBelow e.next call → DenoteGoals e system vars groups limit more goals
      → DenoteGoals e system vars groups limit (pending.Call node ∷ more) (Call call ∷ goals)
  cuts : {limit depth height : ℕ} {more : List Pending} {goals : List OpenGoal}
      → depth ≤ limit → height ≡ height_of groups depth → DenoteGoals e system vars groups depth more goals
      → DenoteGoals e system vars groups limit (pending.Cut depth ∷ more) (CutTo height ∷ goals)

-- a memory's nodes, inequations, frozen pairs and given goals denote those of an alternative before the groups. The nodes that
-- were asked for denote the ask's variables
pub record WritesAlternative (asked : List ℕ) (m : MemoryParts) (groups : List (List Alternative)) (goals : List Pending) (alternative : Alternative) : Type 0 where
  pub sound : IsSystem m.system
  pub vars : List ℕ
  pub represents : Represents alternative.equations m.system vars
  pub scoped : IsScoped alternative.equations
  pub asked_are : DenoteAll alternative.equations m.system vars asked (ask_variables (length asked))
  pub asked_use : length asked ≤ alternative.equations.next
  pub added : List (ℕ × ℕ)
  pub keeper : IsKeeper m.difs m.system added
  pub differ : DenotePairs alternative.equations m.system vars added alternative.differ
  pub differ_use : All (PairUsesBelow alternative.equations.next) alternative.differ
  pub can_wake : CanWake m.frozen m.system
  pub frozen : DenotePairs alternative.equations m.system vars (waiting_pairs m.frozen) alternative.frozen
  pub frozen_use : All (PairUsesBelow alternative.equations.next) alternative.frozen
  pub goals_are : DenoteGoals alternative.equations m.system vars groups (length groups) goals alternative.goals

-- a memory holds an alternative: it is written there, and has a solution
pub record HoldsAlternative (asked : List ℕ) (m : MemoryParts) (groups : List (List Alternative)) (goals : List Pending) (alternative : Alternative) : Type 0 where
  pub writes : WritesAlternative asked m groups goals alternative
  pub solvable : AreSolvable alternative.equations alternative.differ
