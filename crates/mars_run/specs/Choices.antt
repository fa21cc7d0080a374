-- What alternatives choice points have left: the children of their calls by the rules that weren't tried.
use Rattle.std.specs.Prelude.{ℕ, ◌≤◌, List, [], ◌∷◌, length, drop}
use Rattle.mars_term.specs.declared.clause.Rule.{Rule}
use Rattle.mars_goals.specs.declared.choice.Choice.{Choice}
use Rattle.mars_machine.specs.Subjects.{Subject}
use Rattle.mars_machine.specs.Alternatives.{OpenGoal, Alternative}
use Rattle.mars_machine.specs.Children.{AreRuleChildren}
use Rattle.mars_memory.specs.Memory.{MemoryParts, memory_undone, IsMemoryMark}
use Rattle.mars_memory.specs.Holding.{alternatives_of}
use Rattle.mars_memory.specs.Found.{HoldsCall}

-- a call of a node, before a list and before the groups, is held, and these are its children by the rules from a place on
pub record IsChoiceOf (asked : List ℕ) (rules : List Rule) (m : MemoryParts) (groups : List (List Alternative)) (node rest from : ℕ) (children : List Alternative) : Type 0 where
  pub parent : Alternative
  pub call : Subject
  pub others : List OpenGoal
  pub is_call : HoldsCall asked m groups node rest parent call others
  pub within : from ≤ length rules
  pub children_are : AreRuleChildren parent call others (length (alternatives_of groups)) (drop from rules) children

-- the choice points, the latest first, each looked at from the memory undone to the mark of the one after it, and what each
-- has left
pub data AreChoicesOf (asked : List ℕ) (rules : List Rule) : MemoryParts → List Choice → List (List Alternative) → Type 0 where
  none : {m : MemoryParts} → AreChoicesOf asked rules m [] []
  more : {m : MemoryParts} {choice : Choice} {choices : List Choice} {children : List Alternative} {groups : List (List Alternative)}
      → IsMemoryMark m choice.mark
      → IsChoiceOf asked rules (memory_undone m choice.mark) groups choice.call choice.rest choice.from children
      → AreChoicesOf asked rules (memory_undone m choice.mark) choices groups
      → AreChoicesOf asked rules m (choice ∷ choices) (children ∷ groups)
