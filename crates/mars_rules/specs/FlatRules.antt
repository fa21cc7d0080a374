-- Rules as templates, whose places have the trees of the rule's terms, whatever trees the variables have.
use Rattle.std.specs.Prelude.{◌≡◌, ◌⊎◌, ℕ, ◌<◌, ◌≤◌, ◌+◌, List, length}
use Rattle.mars_rules.specs.PairedLists.{AllPaired}
use Rattle.mars_tree.specs.Graph.{Node}
use Rattle.mars_term.specs.declared.term.Term.{Term}
use Rattle.mars_term.specs.declared.clause.Goal.{Goal}
use Rattle.mars_term.specs.declared.clause.Goal.TheVariants as goal
use Rattle.mars_term.specs.declared.clause.Rule.{Rule}
use Rattle.mars_matching.specs.Trees.{Trees, IsTemplate, tree_at}
use Rattle.mars_rules.specs.declared.flat.FlatGoal.{FlatGoal}
use Rattle.mars_rules.specs.declared.flat.FlatGoal.TheVariants as flat
use Rattle.mars_rules.specs.declared.flat.FlatRule.{FlatRule}
use Rattle.mars_rules.specs.TermTrees.{rule_tree}

-- a place has the tree of a term
pub record IsFlatTerm (nodes : List Node) (place : ℕ) (term : Term) : Type 0 where
  pub inside : place < length nodes
  pub tree : (trees : Trees) (path : List ℕ) → tree_at nodes trees place path ≡ rule_tree trees term path

-- a variable's place, or one from a place on
abbrev pub IsOwnPlace : ℕ → ℕ → ℕ → Type 0
IsOwnPlace vars from place = (place < vars) ⊎ (from ≤ place)

-- a goal as a place that has the tree of its term, and is a variable or late enough
abbrev pub IsFlatGoal : List Node → ℕ → ℕ → Goal → FlatGoal → Type 0
IsFlatGoal nodes vars from (goal.Call term) (flat.Call place) = IsFlatTerm nodes place term × IsOwnPlace vars from place
IsFlatGoal nodes vars from goal.Cut flat.Cut = Unit {0}
IsFlatGoal nodes vars from goal.Cut (flat.Call place) = ⊥
IsFlatGoal nodes vars from (goal.Call term) flat.Cut = ⊥

-- a rule as a template, with its goals
pub record IsFlatRule (rule : Rule) (flat : FlatRule) : Type 0 where
  pub template : IsTemplate flat.template
  pub vars : flat.template.vars ≡ rule.vars
  pub head : IsFlatTerm flat.template.nodes flat.template.head rule.head
  pub goals : AllPaired (IsFlatGoal flat.template.nodes flat.template.vars (flat.template.head + 1)) rule.body flat.goals.items
