-- The parts of terms, and what they write: variables, kept names, lists of terms.
use Rattle.std.specs.Prelude.{ℕ, List, [], ◌∷◌, ◌++◌, length, ◌<◌, ◌^◌}
use Rattle.std.specs.List.{flat_map}
use Rattle.mars_term.specs.declared.term.Term.{Term, Var, Int, Name', Tup', Dot', Kept, Str, Row_of-Term, end_of-Term, more_of-Term, out-Term}
use Rattle.mars_term.specs.declared.term.Term.TheOpen as one

-- a term and all terms in it, in the order in which they are written; the dot of a pair comes before both
abbrev mutual
  pub parts_of : Term → List Term
  parts_of (Var number) = Var number ∷ []
  parts_of (Int number) = Int number ∷ []
  parts_of (Name' name shape row) = Name' name shape row ∷ parts_of_row row
  parts_of (Tup' shape row) = Tup' shape row ∷ parts_of_row row
  parts_of (Dot' before left between right) = Dot' before left between right ∷ (parts_of_row left ++ parts_of_row right)
  parts_of (Kept number) = Kept number ∷ []
  parts_of (Str name) = Str name ∷ []

  -- the same of each term in a list
  pub parts_of_row : {n : _} → Row_of-Term n → List Term
  parts_of_row end_of-Term = []
  parts_of_row (more_of-Term term row) = parts_of term ++ parts_of_row row

-- the number of a variable, of nothing else
abbrev pub number_of_var : Term → List ℕ
number_of_var (Var number) = number ∷ []
number_of_var _ = []

-- the number of a kept name, of nothing else
abbrev pub number_of_kept : Term → List ℕ
number_of_kept (Kept number) = number ∷ []
number_of_kept _ = []

-- the numbers of the variables among some parts, in order, each as often as it occurs
abbrev pub vars_of : List Term → List ℕ
vars_of parts = flat_map number_of_var parts

-- the numbers of the kept names among some parts
abbrev pub kept_of : List Term → List ℕ
kept_of parts = flat_map number_of_kept parts

-- the arguments of a name, or what a tuple lists
abbrev pub list_of : Term → List Term
list_of term = elim (out-Term term) [ one.Name name terms ↦ terms | one.Tup terms ↦ terms | _ ↦ [] ]

-- a list of terms can be counted in 32 bits
abbrev pub HasShortList : Term → Type 0
HasShortList term = length (list_of term) < 2 ^ 32
