-- Which rules a call may take: by the label of its root, and by that of its first argument.
use Rattle.std.specs.Prelude.{◌≡◌, ℕ, ◌<◌, ◌≤◌, List, [], ◌∷◌, slice_get, Option, Some, None, MatchOption}
use Rattle.mars_tree.specs.declared.label.Label.{Label}
use Rattle.mars_term.specs.declared.term.Term.{Term}
use Rattle.mars_term.specs.declared.clause.Rule.{Rule}
use Rattle.mars_rules.specs.TermTrees.{label_of_term, arguments_of}

-- the rule's head has the label of the goal, or the goal has none
abbrev pub FitsGoal : Option Label → Rule → Type 0
FitsGoal None rule = Unit {0}
FitsGoal (Some label) rule = label_of_term rule.head ≡ Some label

-- an argument is a variable, or has a label
abbrev pub AllowsLabel : Label → Option Label → Type 0
AllowsLabel label None = Unit {0}
AllowsLabel label (Some own) = own ≡ label

-- the label of the head's first argument; a variable has none
abbrev pub label_of_first : List Term → Option Label
label_of_first [] = None
label_of_first (argument ∷ arguments) = label_of_term argument

-- the rule's head has the label of the goal, and its first argument is a variable or has the label of the goal's first
-- argument; a goal without a label, or whose first argument has none, leaves this open
abbrev pub FitsFirst : Option Label → Option Label → Rule → Type 0
FitsFirst (Some label) (Some first) rule = FitsGoal (Some label) rule × AllowsLabel first (label_of_first (arguments_of rule.head))
FitsFirst goal first rule = FitsGoal goal rule

-- no rule from a place on is one of these
abbrev pub HasNone : (Rule → Type 0) → List Rule → ℕ → Type 0
HasNone Fits rules from = (place : ℕ) (rule : Rule) → from ≤ place → slice_get rules place ≡ Some rule → Fits rule → ⊥

-- the least place from a given one on at which one of these rules is
pub record IsLeastRule (Fits : Rule → Type 0) (rules : List Rule) (from found : ℕ) : Type 0 where
  pub rule : Rule
  pub at : slice_get rules found ≡ Some rule
  pub fits : Fits rule
  pub late : from ≤ found
  pub least : (place : ℕ) (other : Rule) → from ≤ place → place < found → slice_get rules place ≡ Some other → Fits other → ⊥

-- the first of these rules from a place on, or none
abbrev pub IsFirstRule : (Rule → Type 0) → List Rule → ℕ → Option ℕ → Type 0
IsFirstRule Fits rules from found = MatchOption found (HasNone Fits rules from) (IsLeastRule Fits rules from)
