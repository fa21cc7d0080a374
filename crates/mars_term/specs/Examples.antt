-- Small terms, rules and asks, on which the definitions compute.
use Rattle.std.specs.Prelude.{◌≡◌, ℕ, [], ◌∷◌}
use Rattle.mars_tree.specs.declared.label.NameId.{NameId}
use Rattle.mars_term.specs.declared.term.Term.{Term, Var, Name, Dot, Kept}
use Rattle.mars_term.specs.Parts.{parts_of, vars_of, kept_of}
use Rattle.mars_term.specs.Clauses.{NumberedByAppearance}

-- the name with a number
unfoldable pub name_of_number : ℕ → NameId
name_of_number number = record { 0 = number }

-- `ff(x, y.#tt, x)`, where `ff` has the number 13
unfoldable pub applied : Term
applied = Name (name_of_number 13) (Var 0 ∷ Dot (Var 1) (Kept 0) ∷ Var 0 ∷ [])

-- what the definitions say of small terms
pub record TermExamples : Type 0 where
  pub vars : vars_of (parts_of applied) ≡ 0 ∷ 1 ∷ 0 ∷ []
  pub kept : kept_of (parts_of applied) ≡ 0 ∷ []
  pub numbered : NumberedByAppearance 0 2 (0 ∷ 1 ∷ 0 ∷ [])
