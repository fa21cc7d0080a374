-- Laws: a step has one result, and its alternatives keep a solution.
use Rattle.std.specs.Prelude.{◌≡◌, ℕ, ℤ, List, [], All}
use Rattle.mars_term.specs.declared.clause.Rule.{Rule}
use Rattle.mars_rules.specs.RuleLists.{RuleList}
use Rattle.mars_machine.specs.declared.built_in.BuiltIn.{BuiltIn}
use Rattle.mars_machine.specs.Subjects.{Subject}
use Rattle.mars_machine.specs.Equations.{Equations, AreSolvable}
use Rattle.mars_machine.specs.Alternatives.{OpenGoal, Alternative}
use Rattle.mars_machine.specs.Children.{Wakes, AreRuleChildren}
use Rattle.mars_machine.specs.BuiltIns.{TermNumber, IsBuiltInChild}
use Rattle.mars_machine.specs.Steps.{Says, IsDerivationStep}

-- which goals wake, and which pairs wait on, is determined
abbrev pub WakingIsOne : Type 0
WakingIsOne = (e : Equations) (frozen left other : List (Subject × Subject)) (goals others : List OpenGoal)
    → Wakes e frozen goals left → Wakes e frozen others other → (goals ≡ others) × (left ≡ other)

-- under equations with a solution a term has one number at most
abbrev pub TermNumberIsOne : Type 0
TermNumberIsOne = (e : Equations) → AreSolvable e [] → (subject : Subject) (x y : ℤ) → TermNumber e subject x → TermNumber e subject y → x ≡ y

-- the children of a call by rules are determined
abbrev pub RuleChildrenAreOne : Type 0
RuleChildrenAreOne = (parent : Alternative) (call : Subject) (others : List OpenGoal) (height : ℕ) (rules : List Rule) (children more : List Alternative)
    → AreRuleChildren parent call others height rules children → AreRuleChildren parent call others height rules more → children ≡ more

-- the equations and inequations of an alternative have a solution
abbrev pub IsAlive : Alternative → Type 0
IsAlive alternative = AreSolvable alternative.equations alternative.differ

-- the child of a call of a built-in is determined
abbrev pub BuiltInChildIsOne : Type 0
BuiltInChildIsOne = (parent : Alternative) → IsAlive parent → (call : Subject) (others : List OpenGoal) (built_in : BuiltIn) (child other : Alternative)
    → IsBuiltInChild parent call others built_in child → IsBuiltInChild parent call others built_in other → child ≡ other

-- a step is determined: what it says, and the state after it
abbrev pub StepIsOne : Type 0
StepIsOne = (P : RuleList) (state : List Alternative) → All IsAlive state → (says other : Says) (after another : List Alternative)
    → IsDerivationStep P state says after → IsDerivationStep P state other another → (says ≡ other) × (after ≡ another)

-- the alternatives after a step have solutions, too
abbrev pub StepStaysSolvable : Type 0
StepStaysSolvable = (P : RuleList) (state after : List Alternative) (says : Says) → All IsAlive state → IsDerivationStep P state says after → All IsAlive after
