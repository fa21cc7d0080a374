-- Copies of rules in a store: nodes with the trees of the rule's terms, over variables that are new.
use Rattle.std.specs.Prelude.{◌≡◌, ℕ, ◌+◌, ◌<◌, ◌≤◌, List, length}
use Rattle.mars_rules.specs.PairedLists.{AllPaired}
use Rattle.mars_term.specs.declared.term.Term.{Term}
use Rattle.mars_term.specs.declared.clause.Goal.{Goal}
use Rattle.mars_term.specs.declared.clause.Goal.TheVariants as goal
use Rattle.mars_term.specs.declared.clause.Rule.{Rule}
use Rattle.mars_store.specs.Valuation.{Valuation, IsValuation, value}
use Rattle.mars_store.specs.System.{System, IsSystem, Grows}
use Rattle.mars_store.specs.Solutions.{InSol}
use Rattle.mars_store.specs.Growing.{Continues}
use Rattle.mars_matching.specs.Trees.{Trees}
use Rattle.mars_rules.specs.declared.goals.BodyGoal.{BodyGoal}
use Rattle.mars_rules.specs.declared.goals.BodyGoal.TheVariants as copied
use Rattle.mars_rules.specs.declared.goals.Instance.{Instance}
use Rattle.mars_rules.specs.TermTrees.{rule_tree}

-- the trees of a rule's variables, where each is a node of the store
abbrev pub trees_at : Valuation → (ℕ → ℕ) → Trees
trees_at v nodes variable path = value v (nodes variable) path

-- in each solution the node has the tree of the term, where each of the rule's variables is a node of the store
pub record HasTermTree (system : System) (vars : ℕ → ℕ) (term : Term) (node : ℕ) : Type 0 where
  pub inside : node < length system.nodes
  pub tree : (v : Valuation) → InSol system v → (path : List ℕ) → value v node path ≡ rule_tree (trees_at v vars) term path

-- a goal of the store is one of the rule: a cut for a cut, and for a call a node with the tree of its term
abbrev pub IsGoalOf : System → (ℕ → ℕ) → Goal → BodyGoal → Type 0
IsGoalOf system vars (goal.Call term) (copied.Call node) = HasTermTree system vars term node
IsGoalOf system vars goal.Cut copied.Cut = Unit {0}
IsGoalOf system vars goal.Cut (copied.Call node) = ⊥
IsGoalOf system vars (goal.Call term) copied.Cut = ⊥

-- each solution of before goes on as one in which these nodes have any trees that are asked for
abbrev pub TakeAnyTrees : System → System → ℕ → (ℕ → ℕ) → Type 0
TakeAnyTrees old new count vars =
    (v w : Valuation) → InSol old v → IsValuation count w
    → (u : Valuation) × InSol new u × Continues v u × ((variable : ℕ) → variable < count → (path : List ℕ) → value u (vars variable) path ≡ value w variable path)

-- the node of a rule's variable in a copy: after all nodes that there were, in the order of the variables
abbrev pub new_variable : System → ℕ → ℕ
new_variable old variable = length old.nodes + variable

-- a copy of a rule: nodes alone were added, for the rule's variables first. In each solution the copy's nodes have the
-- trees of the rule's terms over these variables, which may have any trees, whatever the solution of before
pub record IsInstance (old new : System) (rule : Rule) (copy : Instance) : Type 0 where
  pub grows : Grows old new
  pub system : IsSystem new
  pub bound : new.bound ≡ old.bound
  pub vars : length old.nodes + rule.vars ≤ length new.nodes
  pub head : HasTermTree new (new_variable old) rule.head copy.head
  pub body : AllPaired (IsGoalOf new (new_variable old)) rule.body copy.body
  pub free : TakeAnyTrees old new rule.vars (new_variable old)
