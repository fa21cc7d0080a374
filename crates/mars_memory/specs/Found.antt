-- What the calls of a memory find: whether a call has a child by a rule or by a built-in, and that it is held then.
use Rattle.std.specs.Prelude.{◌≡◌, ℕ, ◌<◌, List, [], ◌∷◌, ◌++◌, length, Option, Some, None}
use Rattle.mars_tree.specs.Graph.{label_of}
use Rattle.mars_tree.specs.declared.label.Label.TheVariants.{Str}
use Rattle.mars_tree.specs.declared.label.NameId.{NameId}
use Rattle.mars_canon.specs.Canon.{Rooted}
use Rattle.mars_store.specs.System.{resolve}
use Rattle.mars_term.specs.declared.clause.Ask.{Ask}
use Rattle.mars_term.specs.declared.clause.Rule.{Rule}
use Rattle.mars_term.specs.Clauses.{IsRule}
use Rattle.mars_rules.specs.declared.flat.FlatRule.{FlatRule}
use Rattle.mars_rules.specs.FlatRules.{IsFlatRule}
use Rattle.mars_answer.specs.declared.answers.Answer.{Answer}
use Rattle.mars_goals.specs.GoalLists.{list_at}
use Rattle.mars_goals.specs.declared.cells.Pending.{Pending}
use Rattle.mars_goals.specs.declared.cells.Pending.TheVariants as pending
use Rattle.mars_machine.specs.declared.built_in.BuiltIn.{BuiltIn}
use Rattle.mars_machine.specs.Subjects.{Subject, Part}
use Rattle.mars_machine.specs.Equations.{AreSolvable, Forces}
use Rattle.mars_machine.specs.Alternatives.{OpenGoal, Call, Alternative}
use Rattle.mars_machine.specs.Children.{Wakes, IsRuleChild}
use Rattle.mars_machine.specs.BuiltIns.{IsBuiltInChild, built_in_label}
use Rattle.mars_machine.specs.TermAnswers.{IsTermAnswer, IsAnswerOf}
use Rattle.mars_memory.specs.Memory.{MemoryParts, IsLaterMemory}
use Rattle.mars_memory.specs.Holding.{alternatives_of, WritesAlternative, HoldsAlternative}

-- an alternative is written whose goals are the list
pub record HasWritten (m : MemoryParts) (list : ℕ) : Type 0 where
  pub asked : List ℕ
  pub groups : List (List Alternative)
  pub alternative : Alternative
  pub inside : list < length m.lists
  pub writes : WritesAlternative asked m groups (list_at m.lists list) alternative

-- an alternative that was written has a solution, and is written with the goals that wake before its own
pub record Settles (asked : List ℕ) (groups : List (List Alternative)) (alternative : Alternative) (new : MemoryParts) (list : ℕ) : Type 0 where
  pub solvable : AreSolvable alternative.equations alternative.differ
  pub woken : List OpenGoal
  pub left : List (Subject × Subject)
  pub wakes : Wakes alternative.equations alternative.frozen woken left
  pub writes : WritesAlternative asked new groups (list_at new.lists list) (record alternative { goals = woken ++ alternative.goals; frozen = left })

-- whichever alternative was written with the list, it has no solution; or it is settled
abbrev pub IsAlternativeSettled : MemoryParts → ℕ → MemoryParts → Option ℕ → Type 0
IsAlternativeSettled old list new None = IsLaterMemory old new
    × ((asked : List ℕ) (groups : List (List Alternative)) (alternative : Alternative) → WritesAlternative asked old groups (list_at old.lists list) alternative
    → AreSolvable alternative.equations alternative.differ → ⊥)
IsAlternativeSettled old list new (Some found) = IsLaterMemory old new × (found < length new.lists)
    × ((asked : List ℕ) (groups : List (List Alternative)) (alternative : Alternative) → WritesAlternative asked old groups (list_at old.lists list) alternative
    → Settles asked groups alternative new found)

-- an alternative is held whose first goal is a call of a node, and whose others are the list
pub record HoldsCall (asked : List ℕ) (m : MemoryParts) (groups : List (List Alternative)) (node rest : ℕ) (parent : Alternative) (call : Subject) (others : List OpenGoal) : Type 0 where
  pub goals : parent.goals ≡ Call call ∷ others
  pub inside : rest < length m.lists
  pub holds : HoldsAlternative asked m groups (pending.Call node ∷ list_at m.lists rest) parent

-- there is such an alternative
pub record HasCall (m : MemoryParts) (node rest : ℕ) : Type 0 where
  pub asked : List ℕ
  pub groups : List (List Alternative)
  pub parent : Alternative
  pub call : Subject
  pub others : List OpenGoal
  pub is_call : HoldsCall asked m groups node rest parent call others

-- there is one before so many choice points
pub record HasCallAt (m : MemoryParts) (node rest depth : ℕ) : Type 0 where
  pub has : HasCall m node rest
  pub depth_is : length has.groups ≡ depth

-- a rule that is well formed is laid out so
pub record HasRule (flat : FlatRule) : Type 0 where
  pub rule : Rule
  pub is_rule : IsRule rule
  pub is_flat : IsFlatRule rule flat

-- whichever alternative with this call is held before so many choice points, it has no child by the rule
abbrev pub HasNoRuleChild : MemoryParts → ℕ → ℕ → ℕ → Rule → Type 0
HasNoRuleChild m node rest depth rule = (asked : List ℕ) (groups : List (List Alternative)) (parent : Alternative) (call : Subject) (others : List OpenGoal)
    → HoldsCall asked m groups node rest parent call others → length groups ≡ depth
    → (child : Alternative) → IsRuleChild parent call others (length (alternatives_of groups)) rule child → ⊥

-- a child by a rule is held after the call was
pub record HoldsRuleChild (asked : List ℕ) (groups : List (List Alternative)) (parent : Alternative) (call : Subject) (others : List OpenGoal) (rule : Rule) (new : MemoryParts) (list : ℕ) : Type 0 where
  pub child : Alternative
  pub is_child : IsRuleChild parent call others (length (alternatives_of groups)) rule child
  pub holds : HoldsAlternative asked new groups (list_at new.lists list) child

-- whichever alternative with this call is held before so many choice points, its child by the rule is held now
abbrev pub HasRuleChild : MemoryParts → ℕ → ℕ → ℕ → Rule → MemoryParts → ℕ → Type 0
HasRuleChild m node rest depth rule new list = (asked : List ℕ) (groups : List (List Alternative)) (parent : Alternative) (call : Subject) (others : List OpenGoal)
    → HoldsCall asked m groups node rest parent call others → length groups ≡ depth
    → HoldsRuleChild asked groups parent call others rule new list

-- a rule was tried: there is no child and the memory is as before, or there is one
abbrev pub IsTaken : MemoryParts → ℕ → ℕ → ℕ → FlatRule → MemoryParts → Option ℕ → Type 0
IsTaken old node rest depth flat new None = (new ≡ old) × ((rule : Rule) → IsRule rule → IsFlatRule rule flat → HasNoRuleChild old node rest depth rule)
IsTaken old node rest depth flat new (Some list) = IsLaterMemory old new × (list < length new.lists)
    × ((rule : Rule) → IsRule rule → IsFlatRule rule flat → HasRuleChild old node rest depth rule new list)

-- a child by a built-in is held after the call was
pub record HoldsBuiltInChild (asked : List ℕ) (groups : List (List Alternative)) (parent : Alternative) (call : Subject) (others : List OpenGoal) (built_in : BuiltIn) (new : MemoryParts) (list : ℕ) : Type 0 where
  pub child : Alternative
  pub is_child : IsBuiltInChild parent call others built_in child
  pub holds : HoldsAlternative asked new groups (list_at new.lists list) child

-- whichever alternative with this call of a built-in is held, it has no child; or its child is held now
abbrev pub IsBuiltInDone : MemoryParts → ℕ → ℕ → BuiltIn → MemoryParts → Option ℕ → Type 0
IsBuiltInDone old node rest built_in new None = IsLaterMemory old new
    × ((asked : List ℕ) (groups : List (List Alternative)) (parent : Alternative) (call : Subject) (others : List OpenGoal) → HoldsCall asked old groups node rest parent call others
    → (child : Alternative) → IsBuiltInChild parent call others built_in child → ⊥)
IsBuiltInDone old node rest built_in new (Some list) = IsLaterMemory old new × (list < length new.lists)
    × ((asked : List ℕ) (groups : List (List Alternative)) (parent : Alternative) (call : Subject) (others : List OpenGoal) → HoldsCall asked old groups node rest parent call others
    → HoldsBuiltInChild asked groups parent call others built_in new list)

-- the label of the call's root is a built-in's
abbrev pub IsCallOf : MemoryParts → ℕ → BuiltIn → Type 0
IsCallOf m node built_in = label_of m.system.nodes (resolve m.system.bound node) ≡ Some (built_in_label built_in)

-- the tree of the first argument of the call
abbrev pub IsToldTree : MemoryParts → ℕ → ℕ → Rooted → Type 0
IsToldTree m node rest canon = (asked : List ℕ) (groups : List (List Alternative)) (parent : Alternative) (call : Subject) (others : List OpenGoal)
    → HoldsCall asked m groups node rest parent call others → IsTermAnswer parent.equations (Part call 0 ∷ []) canon

-- the string that the first argument of the call is, or that it is none
abbrev pub IsToldText : MemoryParts → ℕ → ℕ → Option NameId → Type 0
IsToldText m node rest None = (asked : List ℕ) (groups : List (List Alternative)) (parent : Alternative) (call : Subject) (others : List OpenGoal)
    → HoldsCall asked m groups node rest parent call others → (string : NameId) → Forces parent.equations (Part call 0) [] (Str string) → ⊥
IsToldText m node rest (Some string) = (asked : List ℕ) (groups : List (List Alternative)) (parent : Alternative) (call : Subject) (others : List OpenGoal)
    → HoldsCall asked m groups node rest parent call others → Forces parent.equations (Part call 0) [] (Str string)

-- the answer of an alternative that is held, of an ask with variables at these nodes
abbrev pub IsToldAnswer : MemoryParts → List ℕ → Answer → Type 0
IsToldAnswer m asked answer = (ask : Ask) (groups : List (List Alternative)) (goals : List Pending) (alternative : Alternative)
    → length ask.vars ≡ length asked → HoldsAlternative asked m groups goals alternative → IsAnswerOf ask alternative answer
