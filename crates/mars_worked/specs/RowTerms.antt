-- Small asks, and what their derivations come to.
use Rattle.std.specs.Prelude.{ℕ, List, [], ◌∷◌, None}
use Rattle.mars_tree.specs.declared.label.NameId.{NameId}
use Rattle.mars_term.specs.declared.term.Term.{Term, Var, Name}
use Rattle.mars_term.specs.declared.clause.Goal.TheVariants as goal
use Rattle.mars_term.specs.declared.clause.Ask.{Ask}
use Rattle.mars_machine.specs.declared.built_in.BuiltIn.{BuiltIn}
use Rattle.mars_machine.specs.declared.built_in.BuiltIn.TheVariants.{Eq, Freeze, Bound, Free, Out}
use Rattle.mars_machine.specs.BuiltIns.{built_in_name}
use Rattle.mars_machine.specs.Subjects.{Subject, Renamed, Part}
use Rattle.mars_machine.specs.Equations.{Equations, with_equality}
use Rattle.mars_machine.specs.Alternatives.{Alternative, ask_start}

-- a name without arguments, such as `aa`
abbrev pub atom : ℕ → Term
atom number = Name (record { 0 = number }) []

-- a built-in with arguments, as a term
abbrev pub built_term : BuiltIn → List Term → Term
built_term built_in terms = Name (record { 0 = built_in_name built_in }) terms

-- such a call, as a subject
abbrev pub built_call : BuiltIn → List Term → Subject
built_call built_in terms = Renamed 0 (built_term built_in terms)

-- an ask of some calls, with the spellings of its variables
abbrev pub ask_of : List NameId → List Term → Ask
ask_of vars [] = record { most = None; goals = []; vars = vars; kept = [] }
ask_of vars (term ∷ terms) = record (ask_of vars terms) { goals = goal.Call term ∷ (ask_of vars terms).goals }

-- one variable, x
abbrev pub one_variable : List NameId
one_variable = record { 0 = 20 } ∷ []

-- `ask eq(x, aa)`, and its alternative after a step
abbrev pub ask_equal : Ask
ask_equal = ask_of one_variable (built_term Eq (Var 0 ∷ atom 13 ∷ []) ∷ [])

abbrev pub equal_made : Alternative
equal_made = record (ask_start ask_equal []) {
  goals = [];
  equations = with_equality (ask_start ask_equal []).equations (Part (built_call Eq (Var 0 ∷ atom 13 ∷ [])) 0) (Part (built_call Eq (Var 0 ∷ atom 13 ∷ [])) 1);
}

-- `ask freeze(x, out(aa)) freeze(x, out(bb)) eq(x, cc) out(dd)`
abbrev pub ask_woken : Ask
ask_woken = ask_of one_variable (
    built_term Freeze (Var 0 ∷ built_term Out (atom 13 ∷ []) ∷ [])
    ∷ built_term Freeze (Var 0 ∷ built_term Out (atom 14 ∷ []) ∷ [])
    ∷ built_term Eq (Var 0 ∷ atom 15 ∷ [])
    ∷ built_term Out (atom 16 ∷ [])
    ∷ []
    )

-- its equations after three steps
abbrev pub woken_equations : Equations
woken_equations = with_equality (ask_start ask_woken []).equations (Part (built_call Eq (Var 0 ∷ atom 15 ∷ [])) 0) (Part (built_call Eq (Var 0 ∷ atom 15 ∷ [])) 1)

-- what its three sayings are of: the arguments of the frozen goals, and that of the last goal
abbrev pub first_said : Subject
first_said = Part (Part (built_call Freeze (Var 0 ∷ built_term Out (atom 13 ∷ []) ∷ [])) 1) 0

abbrev pub second_said : Subject
second_said = Part (Part (built_call Freeze (Var 0 ∷ built_term Out (atom 14 ∷ []) ∷ [])) 1) 0

abbrev pub third_said : Subject
third_said = Part (built_call Out (atom 16 ∷ [])) 0

-- its answer
abbrev pub woken_answer : Alternative
woken_answer = record (ask_start ask_woken []) { goals = []; equations = woken_equations }

-- `ask free(x) eq(x, aa) bound(x)`, and its answer
abbrev pub ask_bound : Ask
ask_bound = ask_of one_variable (built_term Free (Var 0 ∷ []) ∷ built_term Eq (Var 0 ∷ atom 13 ∷ []) ∷ built_term Bound (Var 0 ∷ []) ∷ [])

abbrev pub bound_answer : Alternative
bound_answer = record (ask_start ask_bound []) {
  goals = [];
  equations = with_equality (ask_start ask_bound []).equations (Part (built_call Eq (Var 0 ∷ atom 13 ∷ [])) 0) (Part (built_call Eq (Var 0 ∷ atom 13 ∷ [])) 1);
}
