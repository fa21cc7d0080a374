-- A goal that takes a rule, by matching the rule's head and building its body: what that says of all solutions.
use Rattle.std.specs.Prelude.{◌≡◌, ℕ, ◌<◌, List, length, Option, All}
use Rattle.mars_rules.specs.PairedLists.{AllPaired}
use Rattle.mars_term.specs.declared.clause.Rule.{Rule}
use Rattle.mars_store.specs.Valuation.{Valuation, IsValuation, value}
use Rattle.mars_store.specs.System.{System, IsSystem, Grows}
use Rattle.mars_store.specs.Solutions.{InSol}
use Rattle.mars_store.specs.Growing.{Continues}
use Rattle.mars_matching.specs.Matched.{HasNode, IsMatched, IsRefused, IsBodyBuilt}
use Rattle.mars_rules.specs.declared.flat.FlatGoal.{FlatGoal}
use Rattle.mars_rules.specs.declared.flat.FlatGoal.TheVariants as flat
use Rattle.mars_rules.specs.declared.flat.FlatRule.{FlatRule}
use Rattle.mars_rules.specs.declared.goals.BodyGoal.{BodyGoal}
use Rattle.mars_rules.specs.declared.goals.BodyGoal.TheVariants as copied
use Rattle.mars_rules.specs.FlatRules.{IsFlatRule}
use Rattle.mars_rules.specs.Instances.{HasTermTree, IsGoalOf}
use Rattle.mars_rules.specs.TermTrees.{rule_tree}

-- a goal over the nodes of registers: a cut for a cut, and for a call the node of its place
abbrev pub IsRegisterGoal : List (Option ℕ) → FlatGoal → BodyGoal → Type 0
IsRegisterGoal registers (flat.Call place) (copied.Call node) = HasNode registers place node
IsRegisterGoal registers flat.Cut copied.Cut = Unit {0}
IsRegisterGoal registers flat.Cut (copied.Call node) = ⊥
IsRegisterGoal registers (flat.Call place) copied.Cut = ⊥

-- a call's place has a node
abbrev pub HasGoalNode : List (Option ℕ) → FlatGoal → Type 0
HasGoalNode registers (flat.Call place) = (node : ℕ) × HasNode registers place node
HasGoalNode registers flat.Cut = Unit {0}

-- a goal has the tree of the rule's head, where the rule's variables have the trees of a valuation
abbrev pub HasHeadTree : Rule → Valuation → ℕ → Valuation → Type 0
HasHeadTree rule v goal w = (path : List ℕ) → value v goal path ≡ rule_tree (value w) rule.head path

-- a goal took a rule, whose variables have these nodes. In each new solution the goal has the tree of the head, and each
-- goal of the body that of its term. Whatever rational trees the variables have: each old solution in which the goal then
-- has the head's tree goes on as a new one in which they have these trees
pub record TakesRule (old new : System) (rule : Rule) (goal : ℕ) (vars : ℕ → ℕ) (goals : List BodyGoal) : Type 0 where
  pub grows : Grows old new
  pub system : IsSystem new
  pub head : HasTermTree new vars rule.head goal
  pub body : AllPaired (IsGoalOf new vars) rule.body goals
  pub all : (v w : Valuation) → InSol old v → IsValuation rule.vars w → HasHeadTree rule v goal w
      → (u : Valuation) × InSol new u × Continues v u × ((variable : ℕ) → variable < rule.vars → (path : List ℕ) → value u (vars variable) path ≡ value w variable path)

-- where a rule's head was matched and its body was built, the goal took the rule
abbrev pub MatchedIsTaken : Type 0
MatchedIsTaken =
    (old mid new : System) (rule : Rule) (flat : FlatRule) (goal : ℕ) (matched built : List (Option ℕ)) (vars : ℕ → ℕ) (body : List BodyGoal)
    → IsSystem old → goal < length old.nodes → IsFlatRule rule flat
    → IsMatched flat.template old mid goal matched → IsBodyBuilt flat.template mid new matched built
    → ((variable : ℕ) → variable < rule.vars → HasNode built variable (vars variable)) → AllPaired (IsRegisterGoal built) flat.goals.items body
    → TakesRule old new rule goal vars body

-- the variables and the goals of a rule have nodes then
abbrev pub BuiltHasNodes : Type 0
BuiltHasNodes =
    (mid new : System) (rule : Rule) (flat : FlatRule) (matched built : List (Option ℕ)) → IsFlatRule rule flat → IsBodyBuilt flat.template mid new matched built
    → ((variable : ℕ) → variable < rule.vars → (node : ℕ) × HasNode built variable node) × All (HasGoalNode built) flat.goals.items

-- where the head was refused, the goal has the head's tree in no solution, whatever trees the variables have
abbrev pub RefusedIsNever : Type 0
RefusedIsNever =
    (system : System) (rule : Rule) (flat : FlatRule) (goal : ℕ) → IsFlatRule rule flat → IsRefused flat.template system goal
    → (v w : Valuation) → InSol system v → HasHeadTree rule v goal w → ⊥
