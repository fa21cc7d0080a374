-- What is found where rules are tried, one after another, at one call or at the choice points.
use Rattle.std.specs.Prelude.{◌≡◌, ℕ, ◌<◌, List, [], ◌∷◌, ◌++◌, length, Option, Some, None}
use Rattle.mars_term.specs.declared.clause.Rule.{Rule}
use Rattle.mars_goals.specs.declared.choice.Choice.{Choice}
use Rattle.mars_goals.specs.GoalLists.{list_at}
use Rattle.mars_machine.specs.Alternatives.{Alternative}
use Rattle.mars_memory.specs.Memory.{MemoryParts, IsLaterMemory}
use Rattle.mars_memory.specs.Holding.{alternatives_of, HoldsAlternative}
use Rattle.mars_run.specs.Choices.{IsChoiceOf, AreChoicesOf}
use Rattle.mars_run.specs.States.{IsState, IsMachineState}

-- what a call has left after a rule was taken: nothing, or its children by the rules from the next candidate on
abbrev pub IsLeftOver : List ℕ → List Rule → MemoryParts → List (List Alternative) → ℕ → ℕ → Option ℕ → List Alternative → Type 0
IsLeftOver asked rules m groups node rest None later = later ≡ []
IsLeftOver asked rules m groups node rest (Some from) later = IsChoiceOf asked rules m groups node rest from later

-- the first of the children is held now with the goals of a list, and the others are left
pub record HasNext (asked : List ℕ) (rules : List Rule) (old : MemoryParts) (groups : List (List Alternative)) (node rest : ℕ) (children : List Alternative)
    (new : MemoryParts) (list : ℕ) (left : Option ℕ) : Type 0 where
  pub first : Alternative
  pub later : List Alternative
  pub children_are : children ≡ first ∷ later
  pub holds : HoldsAlternative asked new groups (list_at new.lists list) first
  pub left_are : IsLeftOver asked rules old groups node rest left later

-- rules were tried on a call before so many choice points, from a place on: no child is left and the memory is as before, or
-- the next child is held now
abbrev pub AreRulesTried : List Rule → MemoryParts → ℕ → ℕ → ℕ → ℕ → MemoryParts → Option (ℕ × Option ℕ) → Type 0
AreRulesTried rules old node rest from depth new None = (new ≡ old)
    × ((asked : List ℕ) (groups : List (List Alternative)) (children : List Alternative) → IsChoiceOf asked rules old groups node rest from children → length groups ≡ depth → children ≡ [])
AreRulesTried rules old node rest from depth new (Some found) = IsLaterMemory old new × (found.0 < length new.lists)
    × ((asked : List ℕ) (groups : List (List Alternative)) (children : List Alternative) → IsChoiceOf asked rules old groups node rest from children → length groups ≡ depth
    → HasNext asked rules old groups node rest children new found.0 found.1)

-- choice points, and the one after them where rules are left to it
abbrev pub with_left : Choice → Option ℕ → List Choice → List Choice
with_left choice None choices = choices
with_left choice (Some from) choices = record choice { from = from } ∷ choices

-- a choice was tried after the choice points: it had nothing left and all is as before, or what it had left, and the choice
-- points, are the state now
abbrev pub IsChildChosen : List Rule → MemoryParts → List Choice → Choice → MemoryParts → List Choice → Option ℕ → Type 0
IsChildChosen rules old choices choice new left None = (new ≡ old) × (left ≡ choices)
    × ((asked : List ℕ) (groups : List (List Alternative)) (children : List Alternative) → AreChoicesOf asked rules old choices groups
    → IsChoiceOf asked rules old groups choice.call choice.rest choice.from children → children ≡ [])
IsChildChosen rules old choices choice new left (Some list) =
    (asked : List ℕ) (groups : List (List Alternative)) (children : List Alternative) → AreChoicesOf asked rules old choices groups
    → IsChoiceOf asked rules old groups choice.call choice.rest choice.from children → IsState asked rules new left list (children ++ alternatives_of groups)

-- whichever alternatives the choice points had left, these are the state now
abbrev pub GoesBack : List Rule → MemoryParts → List Choice → MemoryParts → List Choice → Option ℕ → Type 0
GoesBack rules old choices new left next =
    (asked : List ℕ) (groups : List (List Alternative)) → AreChoicesOf asked rules old choices groups → IsMachineState asked rules new left next (alternatives_of groups)

-- whichever children by rules a call had, these, and what the choice points had left, are the state now
abbrev pub GoesDown : List Rule → MemoryParts → List Choice → ℕ → ℕ → MemoryParts → List Choice → Option ℕ → Type 0
GoesDown rules old choices node rest new left next =
    (asked : List ℕ) (groups : List (List Alternative)) (children : List Alternative) → AreChoicesOf asked rules old choices groups
    → IsChoiceOf asked rules old groups node rest 0 children → IsMachineState asked rules new left next (children ++ alternatives_of groups)
