-- Which variables subjects use, and copies of rules with new ones.
use Rattle.std.specs.Prelude.{◌≡◌, ℕ, ◌+◌, ◌<◌, List, [], ◌++◌, map, All}
use Rattle.std.specs.List.{range_with_len}
use Rattle.mars_term.specs.declared.term.Term.{Term}
use Rattle.mars_term.specs.declared.clause.Goal.{Goal}
use Rattle.mars_term.specs.declared.clause.Goal.TheVariants as goal
use Rattle.mars_term.specs.declared.clause.Rule.{Rule}
use Rattle.mars_term.specs.Parts.{parts_of, number_of_var, number_of_kept}
use Rattle.mars_term.specs.Clauses.{IsRule}
use Rattle.mars_store.specs.Valuation.{Valuation}
use Rattle.mars_store.specs.System.{System, IsSystem, Grows}
use Rattle.mars_store.specs.Solutions.{InSol}
use Rattle.mars_store.specs.Growing.{Continues}
use Rattle.mars_rules.specs.declared.goals.BodyGoal.{BodyGoal}
use Rattle.mars_rules.specs.declared.goals.BodyGoal.TheVariants as copied
use Rattle.mars_rules.specs.declared.goals.Instance.{Instance}
use Rattle.mars_rules.specs.PairedLists.{AllPaired}
use Rattle.mars_rules.specs.Instances.{IsInstance, new_variable}
use Rattle.mars_machine.specs.Subjects.{Subject, Renamed, Part}
use Rattle.mars_machine.specs.Equations.{Equations, with_variables}
use Rattle.mars_bridge.specs.Represents.{Represents, Denotes}

-- the variables of a subject are below a number
abbrev pub UsesBelow : ℕ → Subject → Type 0
UsesBelow next (Renamed first term) = All (λ part. All (λ x. first + x < next) (number_of_var part)) (parts_of term)
UsesBelow next (Part subject place) = UsesBelow next subject

-- both subjects of a pair use variables below a number
pub record PairUsesBelow (next : ℕ) (pair : Subject × Subject) : Type 0 where
  pub left : UsesBelow next pair.0
  pub right : UsesBelow next pair.1

-- equations use variables below the next unused one
abbrev pub IsScoped : Equations → Type 0
IsScoped e = All (PairUsesBelow e.next) e.equal

-- a term of so many variables, without kept names
abbrev pub IsTermOver : ℕ → Term → Type 0
IsTermOver count term = All (λ part. All (λ x. x < count) (number_of_var part) × (number_of_kept part ≡ [])) (parts_of term)

-- the nodes of a rule's variables in a copy of the rule
abbrev pub instance_variables : System → ℕ → List ℕ
instance_variables old count = map (new_variable old) (range_with_len 0 count)

-- nodes were added, and each old solution goes on
pub record GoesOn (old new : System) : Type 0 where
  pub sound : IsSystem old
  pub grows : Grows old new
  pub on : (v : Valuation) → InSol old v → (u : Valuation) × InSol new u × Continues v u

-- after nodes were added to a system it represents what it represented, and nodes denote what they denoted
pub record IsKeptBy (e : Equations) (old new : System) (vars : List ℕ) : Type 0 where
  pub represents : Represents e new vars
  pub denotes : (n : ℕ) (subject : Subject) → Denotes e old vars n subject → Denotes e new vars n subject

abbrev pub MoreNodesKeep : Type 0
MoreNodesKeep = (e : Equations) (old new : System) (vars : List ℕ) → Represents e old vars → GoesOn old new → IsKeptBy e old new vars

-- a goal of a copied body is one of the rule: a cut for a cut, and for a call a node that denotes its term, renamed
abbrev pub IsDenotedGoal : Equations → System → List ℕ → ℕ → Goal → BodyGoal → Type 0
IsDenotedGoal e system vars first (goal.Call term) (copied.Call node) = Denotes e system vars node (Renamed first term)
IsDenotedGoal e system vars first goal.Cut copied.Cut = Unit {0}
IsDenotedGoal e system vars first goal.Cut (copied.Call node) = ⊥
IsDenotedGoal e system vars first (goal.Call term) copied.Cut = ⊥

-- after a rule was copied the system represents the equations over so many more variables; nodes denote what they denoted,
-- and those of the copy the terms of the rule, renamed to the new variables
pub record IsCopied (e : Equations) (old new : System) (vars : List ℕ) (rule : Rule) (copy : Instance) : Type 0 where
  pub represents : Represents (with_variables e (e.next + rule.vars)) new (vars ++ instance_variables old rule.vars)
  pub denotes : (n : ℕ) (subject : Subject) → UsesBelow e.next subject → Denotes e old vars n subject
      → Denotes (with_variables e (e.next + rule.vars)) new (vars ++ instance_variables old rule.vars) n subject
  pub head : Denotes (with_variables e (e.next + rule.vars)) new (vars ++ instance_variables old rule.vars) copy.head (Renamed e.next rule.head)
  pub body : AllPaired (IsDenotedGoal (with_variables e (e.next + rule.vars)) new (vars ++ instance_variables old rule.vars) e.next) rule.body copy.body

abbrev pub CopiesDenoteRules : Type 0
CopiesDenoteRules = (e : Equations) (old new : System) (vars : List ℕ) → Represents e old vars → IsScoped e → IsSystem old → (rule : Rule) (copy : Instance) → IsRule rule → IsInstance old new rule copy
    → IsCopied e old new vars rule copy
