-- Worked rows with rules: a cut in a goal that was woken, and numbers of terms.
use Rattle.std.specs.Prelude.{ℕ, ℤ, pos, List, [], ◌∷◌}
use Rattle.mars_term.specs.declared.term.Term.{Var, Int, Name}
use Rattle.mars_term.specs.declared.clause.Goal.{Goal}
use Rattle.mars_term.specs.declared.clause.Goal.TheVariants as goal
use Rattle.mars_term.specs.declared.clause.Rule.{Rule}
use Rattle.mars_term.specs.declared.clause.Ask.{Ask}
use Rattle.mars_term.specs.declared.clause.Version.TheVariants.{One}
use Rattle.mars_rules.specs.RuleLists.{RuleList}
use Rattle.mars_val.specs.declared.operation.Operation.TheVariants.{Add, Div}
use Rattle.mars_val.specs.Number.{IsResult, operation_name}
use Rattle.mars_machine.specs.declared.built_in.BuiltIn.TheVariants.{Eq, Freeze}
use Rattle.mars_machine.specs.Subjects.{Subject, Renamed, Part}
use Rattle.mars_machine.specs.Equations.{Equations, with_equality}
use Rattle.mars_machine.specs.Alternatives.{Alternative, Call, ask_start}
use Rattle.mars_machine.specs.Children.{called_equations}
use Rattle.mars_machine.specs.BuiltIns.{TermNumber}
use Rattle.mars_machine.specs.Steps.{nothing, IsAskRun}
use Rattle.mars_worked.specs.RowTerms.{atom, built_term, built_call, ask_of, one_variable}

-- a rule without variables whose head is a name
abbrev pub atom_rule : ℕ → List Goal → Rule
atom_rule name body = record { head = atom name; body = body; vars = 0 }

-- `qq -> rr / ; rr -> ; rr -> ;`
abbrev pub first_rule : Rule
first_rule = atom_rule 17 (goal.Call (atom 18) ∷ goal.Cut ∷ [])

abbrev pub cut_rules : RuleList
cut_rules = record { rules = first_rule ∷ atom_rule 18 [] ∷ atom_rule 18 [] ∷ []; version = One }

-- `ask freeze(x, qq) rr eq(x, aa)`
abbrev pub ask_cut : Ask
ask_cut = ask_of one_variable (built_term Freeze (Var 0 ∷ atom 17 ∷ []) ∷ atom 18 ∷ built_term Eq (Var 0 ∷ atom 13 ∷ []) ∷ [])

abbrev pub frozen_call : Subject
frozen_call = built_call Freeze (Var 0 ∷ atom 17 ∷ [])

abbrev pub equal_call : Subject
equal_call = built_call Eq (Var 0 ∷ atom 13 ∷ [])

-- after `rr`, by either rule: `eq(x, aa)` is left, and `qq` waits
abbrev pub rr_called : Equations
rr_called = called_equations (ask_start ask_cut []).equations (Renamed 0 (atom 18)) (atom_rule 18 [])

abbrev pub waiting_qq : Alternative
waiting_qq = record (ask_start ask_cut []) { goals = Call equal_call ∷ []; equations = rr_called; frozen = (Part frozen_call 0, Part frozen_call 1) ∷ [] }

-- the equations after `eq(x, aa)`, after the call of `qq`, and after that of its `rr`
abbrev pub x_known_equations : Equations
x_known_equations = with_equality rr_called (Part equal_call 0) (Part equal_call 1)

abbrev pub qq_called : Equations
qq_called = called_equations x_known_equations (Part frozen_call 1) first_rule

abbrev pub inner_called : Equations
inner_called = called_equations qq_called (Renamed 1 (atom 18)) (atom_rule 18 [])

-- what is left after the cut: no goal
abbrev pub after_cut : Alternative
after_cut = record (ask_start ask_cut []) { goals = []; equations = inner_called }

-- `x = add(1, x)`, over one variable
abbrev pub endless : Equations
endless = record { kept = []; next = 1; equal = (Renamed 0 (Var 0), Renamed 0 (Name (record { 0 = operation_name Add }) (Int (pos 1) ∷ Var 0 ∷ []))) ∷ [] }

pub record CutRows : Type 0 where
  -- six steps: `qq` freezes, `rr` has two children, `eq(x, aa)` wakes `qq` in the first of them, which is called with one
  -- alternative after it; so its cut leaves that one, and takes the second child of its own `rr`
  pub woken_cut : IsAskRun cut_rules ask_cut [] 6 (nothing ∷ nothing ∷ nothing ∷ nothing ∷ nothing ∷ nothing ∷ []) (after_cut ∷ waiting_qq ∷ [])
  -- there is no quotient by zero, and an infinite expression has no number
  pub by_zero : (z : ℤ) → IsResult Div (pos 1) (pos 0) z → ⊥
  pub endless_none : (z : ℤ) → TermNumber endless (Renamed 0 (Var 0)) z → ⊥
