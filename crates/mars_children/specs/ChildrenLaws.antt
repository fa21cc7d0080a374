-- Laws: each call has its children by rules, before any of them was tried.
use Rattle.std.specs.Prelude.{ℕ, List, All}
use Rattle.mars_term.specs.declared.clause.Rule.{Rule}
use Rattle.mars_term.specs.Clauses.{IsRule}
use Rattle.mars_store.specs.System.{System, IsSystem}
use Rattle.mars_machine.specs.Subjects.{Subject}
use Rattle.mars_machine.specs.Alternatives.{OpenGoal, Alternative}
use Rattle.mars_machine.specs.Children.{AreRuleChildren}
use Rattle.mars_bridge.specs.Represents.{Represents, Denotes, DenotePairs}
use Rattle.mars_bridge.specs.Scoped.{UsesBelow, PairUsesBelow, IsScoped}

-- a system in which an alternative and a call of it are denoted: its equations are represented, and nodes denote the call and
-- both parts of each inequation and of each frozen pair, over variables that are in use
pub record IsDenotedCall (parent : Alternative) (s : System) (vars : List ℕ) (call : Subject) (node : ℕ) (difs frozen : List (ℕ × ℕ)) : Type 0 where
  pub represents : Represents parent.equations s vars
  pub system : IsSystem s
  pub scoped : IsScoped parent.equations
  pub uses : UsesBelow parent.equations.next call
  pub denotes : Denotes parent.equations s vars node call
  pub differ : DenotePairs parent.equations s vars difs parent.differ
  pub differ_use : All (PairUsesBelow parent.equations.next) parent.differ
  pub waiting : DenotePairs parent.equations s vars frozen parent.frozen
  pub waiting_use : All (PairUsesBelow parent.equations.next) parent.frozen

-- the children of such a call by rules exist
abbrev pub ChildrenExist : Type 0
ChildrenExist = (parent : Alternative) (s : System) (vars : List ℕ) (call : Subject) (node : ℕ) (difs frozen : List (ℕ × ℕ)) → IsDenotedCall parent s vars call node difs frozen
    → (others : List OpenGoal) (height : ℕ) (rules : List Rule) → All IsRule rules → (children : List Alternative) × AreRuleChildren parent call others height rules children
