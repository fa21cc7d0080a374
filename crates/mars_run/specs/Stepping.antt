-- What one step on a memory and its choice points is.
use Rattle.std.specs.Prelude.{◌≡◌, ℕ, ◌<◌, List, [], ◌∷◌, length, Option}
use Rattle.mars_term.specs.declared.clause.Ask.{Ask}
use Rattle.mars_term.specs.declared.clause.Rule.{Rule}
use Rattle.mars_term.specs.declared.clause.Version.{Version}
use Rattle.mars_rules.specs.RuleLists.{RuleList}
use Rattle.mars_goals.specs.declared.choice.Choice.{Choice}
use Rattle.mars_goals.specs.declared.cells.Pending.{Pending}
use Rattle.mars_goals.specs.GoalLists.{list_at}
use Rattle.mars_machine.specs.declared.built_in.BuiltIn.{BuiltIn}
use Rattle.mars_machine.specs.declared.stepped.Stepped.{Stepped}
use Rattle.mars_machine.specs.Subjects.{Subject}
use Rattle.mars_machine.specs.Alternatives.{OpenGoal, Alternative}
use Rattle.mars_machine.specs.BuiltIns.{HasBuiltIn, IsBuiltInChild}
use Rattle.mars_machine.specs.Steps.{Says, BuiltInSays, IsDerivationStep}
use Rattle.mars_machine.specs.Machines.{TellsSaying}
use Rattle.mars_memory.specs.Memory.{MemoryParts}
use Rattle.mars_memory.specs.Holding.{alternatives_of, HoldsAlternative}
use Rattle.mars_memory.specs.Found.{HoldsCall, IsCallOf}
use Rattle.mars_run.specs.Choices.{AreChoicesOf}
use Rattle.mars_run.specs.States.{IsState, IsMachineState}

-- a step of a state, what it tells, and the state after it, as it is now
pub record StepsTo (asked : List ℕ) (P : RuleList) (ask : Ask) (state : List Alternative) (stepped : Stepped) (m : MemoryParts) (choices : List Choice) (next : Option ℕ) : Type 0 where
  pub says : Says
  pub after : List Alternative
  pub tells : TellsSaying ask stepped says
  pub step : IsDerivationStep P state says after
  pub is : IsMachineState asked P.rules m choices next after

-- whichever state it was, for whichever ask with so many variables, it is the state after a step now, and the step told this
abbrev pub IsStepMade : List ℕ → RuleList → MemoryParts → List Choice → ℕ → Stepped → MemoryParts → List Choice → Option ℕ → Type 0
IsStepMade asked P old choices list stepped new left next =
    (ask : Ask) → length ask.vars ≡ length asked → (state : List Alternative) → IsState asked P.rules old choices list state → StepsTo asked P ask state stepped new left next

-- the same of a state whose first alternative has a call of a node before a list
abbrev pub IsCalled : RuleList → MemoryParts → List Choice → ℕ → ℕ → Stepped → MemoryParts → List Choice → Option ℕ → Type 0
IsCalled P old choices node rest stepped new left next =
    (asked : List ℕ) (ask : Ask) (groups : List (List Alternative)) (parent : Alternative) (call : Subject) (others : List OpenGoal)
    → HoldsCall asked old groups node rest parent call others → AreChoicesOf asked P.rules old choices groups
    → StepsTo asked P ask (parent ∷ alternatives_of groups) stepped new left next

-- an alternative without goals is held before what the choice points have left
pub record HoldsGoals (asked : List ℕ) (rules : List Rule) (m : MemoryParts) (choices : List Choice) (goals : List Pending) : Type 0 where
  pub groups : List (List Alternative)
  pub first : Alternative
  pub holds : HoldsAlternative asked m groups goals first
  pub choices_are : AreChoicesOf asked rules m choices groups

abbrev pub HasAnswer : List ℕ → List Rule → MemoryParts → List Choice → Type 0
HasAnswer asked rules m choices = HoldsGoals asked rules m choices []

-- whichever alternative without goals was held, its step told this
abbrev pub IsAnswerStep : List ℕ → RuleList → MemoryParts → List Choice → Stepped → MemoryParts → List Choice → Option ℕ → Type 0
IsAnswerStep asked P old choices stepped new left next =
    (ask : Ask) → length ask.vars ≡ length asked → (groups : List (List Alternative)) (first : Alternative) → HoldsAlternative asked old groups [] first → AreChoicesOf asked P.rules old choices groups
    → StepsTo asked P ask (first ∷ alternatives_of groups) stepped new left next

-- an alternative is held whose goals are a goal before a list
pub record HasGoal (rules : List Rule) (m : MemoryParts) (choices : List Choice) (goal : Pending) (rest : ℕ) : Type 0 where
  pub asked : List ℕ
  pub inside : rest < length m.lists
  pub held : HoldsGoals asked rules m choices (goal ∷ list_at m.lists rest)

-- whichever such alternative was held, its step told this
abbrev pub IsDown : RuleList → MemoryParts → List Choice → Pending → ℕ → Stepped → MemoryParts → List Choice → Option ℕ → Type 0
IsDown P old choices goal rest stepped new left next =
    (asked : List ℕ) (ask : Ask) (groups : List (List Alternative)) (first : Alternative) → HoldsAlternative asked old groups (goal ∷ list_at old.lists rest) first
    → AreChoicesOf asked P.rules old choices groups → StepsTo asked P ask (first ∷ alternatives_of groups) stepped new left next

-- the call of a node is of no built-in of the version
abbrev pub IsOfRules : Version → MemoryParts → ℕ → Type 0
IsOfRules version m node = (built_in : BuiltIn) → HasBuiltIn version built_in → IsCallOf m node built_in → ⊥

-- what a call of a built-in says is told
pub record TellsBuiltIn (ask : Ask) (parent : Alternative) (call : Subject) (built_in : BuiltIn) (stepped : Stepped) : Type 0 where
  pub says : Says
  pub tells : TellsSaying ask stepped says
  pub is_said : BuiltInSays parent.equations call built_in says

-- whichever alternative with this call of a built-in is held: where it has a child, what it says is told
abbrev pub IsToldCall : MemoryParts → ℕ → ℕ → BuiltIn → Stepped → Type 0
IsToldCall m node rest built_in stepped =
    (asked : List ℕ) (ask : Ask) (groups : List (List Alternative)) (parent : Alternative) (call : Subject) (others : List OpenGoal) → HoldsCall asked m groups node rest parent call others
    → (child : Alternative) → IsBuiltInChild parent call others built_in child → TellsBuiltIn ask parent call built_in stepped
