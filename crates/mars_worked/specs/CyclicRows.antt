-- A worked row with infinite trees: two equations whose only solution makes their variables equal.
use Rattle.std.specs.Prelude.{List, [], ◌∷◌}
use Rattle.mars_tree.specs.declared.label.NameId.{NameId}
use Rattle.mars_term.specs.declared.term.Term.{Term, Var, Name}
use Rattle.mars_term.specs.declared.clause.Ask.{Ask}
use Rattle.mars_machine.specs.declared.built_in.BuiltIn.TheVariants.{Eq, Dif}
use Rattle.mars_machine.specs.Steps.{nothing}
use Rattle.mars_worked.specs.RowTerms.{built_term, ask_of}
use Rattle.mars_worked.specs.DerivationRows.{EndsAfter}

-- two variables, x and y
abbrev pub two_variables : List NameId
two_variables = record { 0 = 20 } ∷ record { 0 = 21 } ∷ []

-- `ff` of a term
abbrev pub ff_of : Term → Term
ff_of term = Name (record { 0 = 19 }) (term ∷ [])

-- `ask eq(x, ff(x)) eq(y, ff(ff(y))) dif(x, y)`
abbrev pub ask_cyclic : Ask
ask_cyclic = ask_of two_variables (
    built_term Eq (Var 0 ∷ ff_of (Var 0) ∷ []) ∷ built_term Eq (Var 1 ∷ ff_of (ff_of (Var 1)) ∷ []) ∷ built_term Dif (Var 0 ∷ Var 1 ∷ []) ∷ []
    )

-- both equations have a solution, without an occurs check, and then x and y are one tree: the third step fails
abbrev pub CyclicRow : Type 0
CyclicRow = EndsAfter ask_cyclic 3 (nothing ∷ nothing ∷ nothing ∷ [])
