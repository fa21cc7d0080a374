-- The state of a derivation that a memory, its choice points and a goal list are.
use Rattle.std.specs.Prelude.{◌≡◌, ℕ, ◌<◌, List, [], ◌∷◌, length, Option, Some, None}
use Rattle.mars_term.specs.declared.clause.Rule.{Rule}
use Rattle.mars_goals.specs.declared.choice.Choice.{Choice}
use Rattle.mars_goals.specs.GoalLists.{list_at}
use Rattle.mars_machine.specs.Alternatives.{Alternative}
use Rattle.mars_memory.specs.Memory.{MemoryParts}
use Rattle.mars_memory.specs.Holding.{alternatives_of, HoldsAlternative}
use Rattle.mars_run.specs.Choices.{AreChoicesOf}

-- a state with alternatives: the first is held with the goals of a list, and the choice points have the others left
pub record IsState (asked : List ℕ) (rules : List Rule) (m : MemoryParts) (choices : List Choice) (list : ℕ) (state : List Alternative) : Type 0 where
  pub first : Alternative
  pub groups : List (List Alternative)
  pub state_is : state ≡ first ∷ alternatives_of groups
  pub inside : list < length m.lists
  pub holds : HoldsAlternative asked m groups (list_at m.lists list) first
  pub choices_are : AreChoicesOf asked rules m choices groups

-- the same, or a state without alternatives where there is no list
abbrev pub IsMachineState : List ℕ → List Rule → MemoryParts → List Choice → Option ℕ → List Alternative → Type 0
IsMachineState asked rules m choices None state = state ≡ []
IsMachineState asked rules m choices (Some list) state = IsState asked rules m choices list state

-- there is a state with alternatives
abbrev pub HasState : List ℕ → List Rule → MemoryParts → List Choice → ℕ → Type 0
HasState asked rules m choices list = (state : List Alternative) × IsState asked rules m choices list state

-- the choice points have some alternatives left
pub record HasChoices (rules : List Rule) (m : MemoryParts) (choices : List Choice) : Type 0 where
  pub asked : List ℕ
  pub groups : List (List Alternative)
  pub choices_are : AreChoicesOf asked rules m choices groups
