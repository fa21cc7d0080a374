-- When rules and asks are well formed.
use Rattle.std.specs.Prelude.{◌≡◌, ℕ, ◌<◌, ◌≤◌, ◌+◌, max, List, [], ◌∷◌, ◌++◌, length, All}
use Rattle.std.specs.List.{flat_map}
use Rattle.mars_base.specs.Lists.{AreDistinct}
use Rattle.mars_tree.specs.declared.label.NameId.{NameId}
use Rattle.mars_term.specs.declared.term.Term.{Term, Name}
use Rattle.mars_term.specs.declared.clause.Goal.{Goal}
use Rattle.mars_term.specs.declared.clause.Goal.TheVariants.{Call, Cut}
use Rattle.mars_term.specs.declared.clause.Rule.{Rule}
use Rattle.mars_term.specs.declared.clause.Ask.{Ask}
use Rattle.mars_term.specs.Parts.{parts_of, vars_of, kept_of, HasShortList}

-- the parts of a goal
abbrev pub parts_of_goal : Goal → List Term
parts_of_goal (Call term) = parts_of term
parts_of_goal Cut = []

-- the parts of goals, in order
abbrev pub parts_of_goals : List Goal → List Term
parts_of_goals goals = flat_map parts_of_goal goals

-- the parts of a rule, of the head first
abbrev pub parts_of_rule : Rule → List Term
parts_of_rule rule = parts_of rule.head ++ parts_of_goals rule.body

-- numbers that go by first appearance: with `next` numbers known, each is a known one or the next, and at last `total` are known
abbrev pub NumberedByAppearance : ℕ → ℕ → List ℕ → Type 0
NumberedByAppearance next total [] = next ≡ total
NumberedByAppearance next total (number ∷ numbers) = (number ≤ next) × NumberedByAppearance (max next (number + 1)) total numbers

-- a term that is a name, with arguments or without
abbrev pub IsNameTerm : Term → Type 0
IsNameTerm term = (name : NameId) × (terms : List Term) × (term ≡ Name name terms)

-- a rule that is well formed
pub record IsRule (rule : Rule) : Type 0 where
  pub head : IsNameTerm rule.head
  pub vars : All (λ number. number < rule.vars) (vars_of (parts_of_rule rule))
  pub kept : kept_of (parts_of_rule rule) ≡ []
  pub short : All HasShortList (parts_of_rule rule)

-- an ask that is well formed
pub record IsAsk (ask : Ask) : Type 0 where
  pub numbered : NumberedByAppearance 0 (length ask.vars) (vars_of (parts_of_goals ask.goals))
  pub distinct : AreDistinct ask.vars
  pub kept : All (λ number. number < length ask.kept) (kept_of (parts_of_goals ask.goals))
  pub short : All HasShortList (parts_of_goals ask.goals)
