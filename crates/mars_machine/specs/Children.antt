-- The children of a call by rules, and the goals that wake.
use Rattle.std.specs.Prelude.{◌≡◌, ℕ, ◌+◌, List, [], ◌∷◌, ◌++◌, Some}
use Rattle.mars_tree.specs.declared.label.Label.{Label}
use Rattle.mars_term.specs.declared.clause.Rule.{Rule}
use Rattle.mars_rules.specs.Candidates.{FitsGoal}
use Rattle.mars_machine.specs.Subjects.{Subject, Renamed}
use Rattle.mars_machine.specs.Equations.{Equations, AreSolvable, Forces, Knows, with_equality, with_variables}
use Rattle.mars_machine.specs.Alternatives.{OpenGoal, Call, Alternative, opened_goals}

-- of frozen pairs, those whose first part is known leave, and their second parts are called, in order; the others wait on
pub data Wakes (e : Equations) : List (Subject × Subject) → List OpenGoal → List (Subject × Subject) → Type 0 where
  none : Wakes e [] [] []
  wakes : {on goal : Subject} {frozen left : List (Subject × Subject)} {goals : List OpenGoal}
      → Knows e on → Wakes e frozen goals left → Wakes e ((on, goal) ∷ frozen) (Call goal ∷ goals) left
  waits : {on goal : Subject} {frozen left : List (Subject × Subject)} {goals : List OpenGoal}
      → (Knows e on → ⊥) → Wakes e frozen goals left → Wakes e ((on, goal) ∷ frozen) goals ((on, goal) ∷ left)

-- an alternative with these equations, which with its parent's inequations have a solution: the goals that they wake are in
-- front of the given ones
pub record IsChildUnder (parent : Alternative) (e : Equations) (goals : List OpenGoal) (child : Alternative) : Type 0 where
  pub solvable : AreSolvable e parent.differ
  pub equations_are : child.equations ≡ e
  pub differ_are : child.differ ≡ parent.differ
  pub woken : List OpenGoal
  pub wakes : Wakes e parent.frozen woken child.frozen
  pub goals_are : child.goals ≡ woken ++ goals

-- the rule's head has the name and arity that are forced at the root of a call; where none are, any head will do
abbrev pub MayTake : Equations → Subject → Rule → Type 0
MayTake e call rule = (label : Label) → Forces e call [] label → FitsGoal (Some label) rule

-- the equations of a call by a rule: the rule's variables are the next unused ones, and the call equals the head
abbrev pub called_equations : Equations → Subject → Rule → Equations
called_equations e call rule = with_variables (with_equality e call (Renamed e.next rule.head)) (e.next + rule.vars)

-- the child of a call by a rule: the woken goals, the rule's body, whose cuts have this height, and the others
pub record IsRuleChild (parent : Alternative) (call : Subject) (others : List OpenGoal) (height : ℕ) (rule : Rule) (child : Alternative) : Type 0 where
  pub takes : MayTake parent.equations call rule
  pub under : IsChildUnder parent (called_equations parent.equations call rule) (opened_goals height parent.equations.next rule.body ++ others) child

-- the children of a call by rules, in the order of the rules
pub data AreRuleChildren (parent : Alternative) (call : Subject) (others : List OpenGoal) (height : ℕ) : List Rule → List Alternative → Type 0 where
  none : AreRuleChildren parent call others height [] []
  child : {rule : Rule} {rules : List Rule} {first : Alternative} {children : List Alternative}
      → IsRuleChild parent call others height rule first → AreRuleChildren parent call others height rules children
      → AreRuleChildren parent call others height (rule ∷ rules) (first ∷ children)
  no_child : {rule : Rule} {rules : List Rule} {children : List Alternative}
      → ((first : Alternative) → IsRuleChild parent call others height rule first → ⊥) → AreRuleChildren parent call others height rules children
      → AreRuleChildren parent call others height (rule ∷ rules) children
