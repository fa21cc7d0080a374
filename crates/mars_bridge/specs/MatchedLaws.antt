-- Laws: a head that was matched, and a body that was built, represent a call by a rule.
use Rattle.std.specs.Prelude.{ℕ, List, [], ◌++◌, map, slice_index_or, Option, None, unwrap_or}
use Rattle.std.specs.List.{range_with_len}
use Rattle.mars_store.specs.System.{System, IsSystem}
use Rattle.mars_term.specs.declared.clause.Goal.{Goal}
use Rattle.mars_term.specs.declared.clause.Goal.TheVariants as goal
use Rattle.mars_term.specs.declared.clause.Rule.{Rule}
use Rattle.mars_term.specs.Clauses.{IsRule}
use Rattle.mars_matching.specs.Matched.{HasNode, IsMatched, IsBodyBuilt, IsRefused}
use Rattle.mars_rules.specs.PairedLists.{AllPaired}
use Rattle.mars_rules.specs.declared.flat.FlatGoal.{FlatGoal}
use Rattle.mars_rules.specs.declared.flat.FlatGoal.TheVariants as flat
use Rattle.mars_rules.specs.declared.flat.FlatRule.{FlatRule}
use Rattle.mars_rules.specs.FlatRules.{IsFlatRule}
use Rattle.mars_machine.specs.Subjects.{Subject, Renamed}
use Rattle.mars_machine.specs.Equations.{Equations, AreSolvable}
use Rattle.mars_machine.specs.Children.{called_equations}
use Rattle.mars_bridge.specs.Represents.{Represents, Denotes}
use Rattle.mars_bridge.specs.Scoped.{UsesBelow, IsScoped}

-- the node that a register holds
abbrev pub register_at : List (Option ℕ) → ℕ → ℕ
register_at registers place = unwrap_or (slice_index_or registers place None) 0

-- the nodes of a rule's variables
abbrev pub register_nodes : List (Option ℕ) → ℕ → List ℕ
register_nodes registers count = map (register_at registers) (range_with_len 0 count)

-- the node in the register of a goal's place denotes the goal's term, renamed
abbrev pub IsHeldGoal : Equations → System → List ℕ → ℕ → List (Option ℕ) → Goal → FlatGoal → Type 0
IsHeldGoal e system vars first registers (goal.Call term) (flat.Call place) = (n : ℕ) → HasNode registers place n → Denotes e system vars n (Renamed first term)
IsHeldGoal e system vars first registers goal.Cut flat.Cut = Unit {0}
IsHeldGoal e system vars first registers goal.Cut (flat.Call place) = ⊥
IsHeldGoal e system vars first registers (goal.Call term) flat.Cut = ⊥

-- the system represents the equations of a call by a rule; nodes denote what they denoted, and those of the body its goals
pub record IsCalledBy (e : Equations) (old new : System) (vars : List ℕ) (call : Subject) (rule : Rule) (flat : FlatRule) (registers : List (Option ℕ)) : Type 0 where
  pub represents : Represents (called_equations e call rule) new (vars ++ register_nodes registers rule.vars)
  pub denotes : (n : ℕ) (subject : Subject) → UsesBelow e.next subject → Denotes e old vars n subject
      → Denotes (called_equations e call rule) new (vars ++ register_nodes registers rule.vars) n subject
  pub body : AllPaired (IsHeldGoal (called_equations e call rule) new (vars ++ register_nodes registers rule.vars) e.next registers) rule.body flat.goals.items

-- a node that denotes a call was matched against the head of a rule, and the body was built
abbrev pub MatchedRepresents : Type 0
MatchedRepresents = (e : Equations) (old mid new : System) (vars : List ℕ) → Represents e old vars → IsScoped e → IsSystem old
    → (call : Subject) (node : ℕ) → UsesBelow e.next call → Denotes e old vars node call
    → (rule : Rule) (flat : FlatRule) → IsRule rule → IsFlatRule rule flat → (before after : List (Option ℕ))
    → IsMatched flat.template old mid node before → IsBodyBuilt flat.template mid new before after → IsCalledBy e old new vars call rule flat after

-- where the head is refused the equations of the call have no solution
abbrev pub RefusedUnsolvable : Type 0
RefusedUnsolvable = (e : Equations) (old : System) (vars : List ℕ) → Represents e old vars → IsScoped e
    → (call : Subject) (node : ℕ) → UsesBelow e.next call → Denotes e old vars node call → (rule : Rule) (flat : FlatRule) → IsRule rule → IsFlatRule rule flat
    → IsRefused flat.template old node → AreSolvable (called_equations e call rule) [] → ⊥
