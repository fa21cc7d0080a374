-- The worked rows.
use Rattle.std.proofs.Common.{◌≡◌, ◌≢◌, ℕ, suc, ◌<◌, List, [], ◌∷◌, ◌++◌, length, Option, Some, None, option_and_then, slice_get, refl, sym, ap, ◌∙◌, arith, lit≤}
use Rattle.std.proofs.lemmas.List.Elements.{All-nil, All-cons, All-head}
use Rattle.mars_tree.specs.declared.label.Label.TheVariants.{Name, Int, Dot, Tup, Str}
use Rattle.mars_tree.specs.Graph.{Node, IsNode, labelled, Shown, label as at_label, free}
use Rattle.mars_store.specs.Valuation.{Valuation, IsValuation, value}
use Rattle.mars_store.specs.Solutions.{constant}
use Rattle.mars_term.specs.declared.term.Term.{Term, Var}
use Rattle.mars_term.specs.declared.clause.Ask.{Ask}
use Rattle.mars_term.specs.declared.clause.Version.TheVariants.{One}
use Rattle.mars_rules.specs.RuleLists.{RuleList}
use Rattle.mars_machine.specs.declared.built_in.BuiltIn.{BuiltIn}
use Rattle.mars_machine.specs.declared.built_in.BuiltIn.TheVariants.{Eq, Dif, Freeze, Bound, Free, Out}
use Rattle.mars_machine.specs.declared.ending.Ending.TheVariants.{Enough}
use Rattle.mars_machine.specs.Subjects.{Subject, Renamed, Part, subject_value}
use Rattle.mars_machine.specs.Equations.{Equations, Solves, HaveOneTree, Knows, Forces, with_equality}
use Rattle.mars_machine.specs.Alternatives.{Alternative, OpenGoal, Call, ask_start}
use Rattle.mars_machine.specs.Children.Wakes.{none as wake-none, wakes as wake-wakes}
use Rattle.mars_machine.specs.BuiltIns.{HasBuiltIn, IsBuiltInChild, built_in_name, built_in_arity}
use Rattle.mars_machine.specs.BuiltIns.IsBuiltInChild.{equal as built-equal, apart as built-apart, frozen as built-frozen, bound as built-bound, free as built-free, out as built-out}
use Rattle.mars_machine.specs.Steps.{Says, nothing, tree, answer, CallsBuiltIn, BuiltInSays, IsDerivation, IsDerivationStep, IsAskRun}
use Rattle.mars_machine.specs.Steps.BuiltInSays.{tree_said, nothing_said}
use Rattle.mars_machine.specs.Steps.IsDerivationStep.{answers, goes_on, fails}
use Rattle.mars_machine.specs.Steps.IsDerivation.{begins, goes}
use Rattle.mars_machine.specs.Asks.{IsAskEnd}
use Rattle.mars_worked.specs.RowTerms.{atom, built_term, built_call, ask_of, one_variable, ask_equal, equal_made, ask_woken, woken_equations, first_said, second_said, third_said, woken_answer, ask_bound, bound_answer}
use Rattle.mars_worked.specs.DerivationRows.{no_rules, EndsAfter, DerivationRows}
use Rattle.mars_machine.proofs.Values.{value-name, value-argument, value-variable}
use Rattle.mars_machine.proofs.Ends.{ends_without_alternatives, stops_at_budget}

-- x is an atom
abbrev pub x_is : ℕ → Valuation
x_is name = record { graph = labelled (constant name) [] ∷ []; nodes = 0 ∷ [] }

named-leaf : (name : ℕ) → (labelled (constant name) []).label ≡ None → ⊥
named-leaf name e = cc

pub x-valid : (name : ℕ) → IsValuation 1 (x_is name)
x-valid name = record {
  graph = All-cons (IsNode 1) (labelled (constant name) []) [] (record { kids = refl; in_range = All-nil (λ kid. kid < 1) }) (All-nil (IsNode 1));
  ground = All-cons (λ node. node.label ≢ None) (labelled (constant name) []) [] (named-leaf name) (All-nil (λ node. node.label ≢ None));
  each = refl;
  inside = All-cons (λ n. n < 1) 0 [] (lit≤ tt) (All-nil (λ n. n < 1));
}

-- x and an atom, as the arguments of a built-in
abbrev pub x_call : BuiltIn → ℕ → Subject
x_call built_in name = built_call built_in (Var 0 ∷ atom name ∷ [])

abbrev pub x_pair : BuiltIn → ℕ → Subject × Subject
x_pair built_in name = (Part (x_call built_in name) 0, Part (x_call built_in name) 1)

-- what the arguments of a call show
pub argument-value : (v : Valuation) (built_in : BuiltIn) (terms : List Term) (place : ℕ) (path : List ℕ)
    → subject_value [] v (Part (built_call built_in terms) place) path ≡ option_and_then (λ term. subject_value [] v (Renamed 0 term) path) (slice_get terms place)
argument-value v built_in terms place path = value-argument [] v 0 (record { 0 = built_in_name built_in }) terms place path

pub x-value : (v : Valuation) (built_in : BuiltIn) (terms : List Term) (path : List ℕ) → subject_value [] v (Part (built_call built_in (Var 0 ∷ terms)) 0) path ≡ value v 0 path
x-value v built_in terms path = argument-value v built_in (Var 0 ∷ terms) 0 path ∙ value-variable [] v 0 0 path

pub second-value : (v : Valuation) (built_in : BuiltIn) (name : ℕ) (path : List ℕ) → subject_value [] v (x_pair built_in name).1 path ≡ subject_value [] v (Renamed 0 (atom name)) path
second-value v built_in name path = argument-value v built_in (Var 0 ∷ atom name ∷ []) 1 path

pub atom-root : (v : Valuation) (name : ℕ) → subject_value [] v (Renamed 0 (atom name)) [] ≡ Some (at_label (constant name))
atom-root v name = value-name [] v 0 (record { 0 = name }) []

atom-same : (name : ℕ) (path : List ℕ) → value (x_is name) 0 path ≡ subject_value [] (x_is name) (Renamed 0 (atom name)) path
atom-same name [] = sym (atom-root (x_is name) name)
atom-same name (place ∷ path) = sym (value-argument [] (x_is name) 0 (record { 0 = name }) [] place path)

pub x-same : (built_in : BuiltIn) (name : ℕ) (path : List ℕ) → subject_value [] (x_is name) (x_pair built_in name).0 path ≡ subject_value [] (x_is name) (x_pair built_in name).1 path
x-same built_in name path = x-value (x_is name) built_in (atom name ∷ []) path ∙ atom-same name path ∙ sym (second-value (x_is name) built_in name path)

-- no equation yet, and `x = a`
abbrev at_first : Equations
at_first = record { kept = []; next = 1; equal = [] }

abbrev x_made : ℕ → Equations
x_made name = with_equality at_first (Part (x_call Eq name) 0) (Part (x_call Eq name) 1)

first-solves : (name : ℕ) → Solves at_first (x_is name)
first-solves name = record { valuation = x-valid name; equal = All-nil (HaveOneTree [] (x_is name)) }

x-solves : (name : ℕ) → Solves (x_made name) (x_is name)
x-solves name = record {
  valuation = x-valid name;
  equal = All-cons (HaveOneTree [] (x_is name)) (x_pair Eq name) [] (record { along = x-same Eq name }) (All-nil (HaveOneTree [] (x_is name)));
}

shown-number : Option Shown → ℕ
shown-number (Some (at_label (Name name arity))) = name.0
shown-number (Some (at_label (Int z))) = 0
shown-number (Some (at_label Dot)) = 0
shown-number (Some (at_label (Tup arity))) = 0
shown-number (Some (at_label (Str spelling))) = 0
shown-number (Some (free n)) = 0
shown-number None = 0

pub two-names : Some (at_label (constant 14)) ≡ Some (at_label (constant 13)) → ⊥
unfolding shown-number
two-names e = let same : ◌≡◌ {A = ℕ} 14 13 = ap shown-number e in absurd (omega (arith, same))

-- at first x isn't known, and then it is
x-unknown : (built_in : BuiltIn) (terms : List Term) → Knows at_first (Part (built_call built_in (Var 0 ∷ terms)) 0) → ⊥
x-unknown built_in terms k = two-names (
    sym (x-value (x_is 14) built_in terms []) ∙ k.1 (x_is 14) (first-solves 14) ∙ sym (k.1 (x_is 13) (first-solves 13)) ∙ x-value (x_is 13) built_in terms []
    )

x-known : (name : ℕ) (built_in : BuiltIn) (terms : List Term) → Knows (x_made name) (Part (built_call built_in (Var 0 ∷ terms)) 0)
x-known name built_in terms = (
  constant name,
  λ v s.
      x-value v built_in terms [] ∙ sym (x-value v Eq (atom name ∷ []) []) ∙ (All-head (HaveOneTree [] v) (x_pair Eq name) [] s.equal).along []
      ∙ second-value v Eq name [] ∙ atom-root v name,
)

-- a call of a built-in is one
pub called : (e : Equations) (built_in : BuiltIn) (terms : List Term) → HasBuiltIn One built_in → length terms ≡ built_in_arity built_in → CallsBuiltIn One e (built_call built_in terms) built_in
called e built_in terms has size = (
  has,
  λ v s. value-name e.kept v 0 (record { 0 = built_in_name built_in }) terms ∙ ap (λ n. Some (at_label (Name (record { 0 = built_in_name built_in }) n))) size,
)

-- so is the call that a frozen one holds
woken-called : (name : ℕ) → CallsBuiltIn One woken_equations (Part (built_call Freeze (Var 0 ∷ built_term Out (atom name ∷ []) ∷ [])) 1) Out
woken-called name = (tt, λ v s. argument-value v Freeze (Var 0 ∷ built_term Out (atom name ∷ []) ∷ []) 1 [] ∙ value-name [] v 0 (record { 0 = built_in_name Out }) (atom name ∷ []))

woken-said : (name : ℕ) → Forces woken_equations (Part (Part (built_call Freeze (Var 0 ∷ built_term Out (atom name ∷ []) ∷ [])) 1) 0) [] (constant name)
woken-said name v s =
    argument-value v Freeze (Var 0 ∷ built_term Out (atom name ∷ []) ∷ []) 1 (0 ∷ [])
    ∙ value-argument [] v 0 (record { 0 = built_in_name Out }) (atom name ∷ []) 0 [] ∙ atom-root v name

-- a step of a built-in that says nothing, or a tree
pub built-step : (first child : Alternative) (rest : List Alternative) (call : Subject) (others : List OpenGoal) (said : Says) (built_in : BuiltIn) → first.goals ≡ Call call ∷ others
    → CallsBuiltIn One first.equations call built_in → IsBuiltInChild first call others built_in child → BuiltInSays first.equations call built_in said
    → IsDerivationStep no_rules (first ∷ rest) said (child ∷ rest)
built-step first child rest call others said built_in e k c s = goes_on {call = call} {others = others} built_in e k c s

pub fail-step : (first : Alternative) (rest : List Alternative) (call : Subject) (others : List OpenGoal) (built_in : BuiltIn) → first.goals ≡ Call call ∷ others
    → CallsBuiltIn One first.equations call built_in → ((child : Alternative) → IsBuiltInChild first call others built_in child → ⊥)
    → IsDerivationStep no_rules (first ∷ rest) nothing rest
fail-step first rest call others built_in e k n = fails {call = call} {others = others} built_in e k n

pub then : (start : List Alternative) (steps : ℕ) (said : List Says) (says : Says) (before after : List Alternative) → IsDerivation no_rules start steps said before → IsDerivationStep no_rules before says after
    → IsDerivation no_rules start (suc steps) (said ++ says ∷ []) after
then start steps said says before after d h = goes d h

pub ends : (ask : Ask) (steps : ℕ) (said : List Says) → IsAskRun no_rules ask [] steps said [] → EndsAfter ask steps said
ends ask steps said d budget within = ends_without_alternatives no_rules ask [] budget steps said d within

-- an ask of no goals
abbrev start_none : Alternative
start_none = ask_start (ask_of [] []) []

no-goals : EndsAfter (ask_of [] []) 1 (answer start_none ∷ [])
no-goals = ends (ask_of [] []) 1 (answer start_none ∷ []) (then (start_none ∷ []) 0 [] (answer start_none) (start_none ∷ []) [] begins (answers refl))

none-wanted : (P : RuleList) (ask : Ask) (kept : List (List Node)) (budget : ℕ) → IsAskEnd P ask kept budget (Some 0) 0 [] Enough
none-wanted P ask kept budget = record {
  state = ask_start ask kept ∷ [];
  run = begins;
  within = omega arith;
  ends = refl;
  least = λ fewer earlier before way few. absurd (omega arith);
}

-- `eq(x, aa)`
abbrev start_equal : Alternative
start_equal = ask_start ask_equal []

equal-step : IsDerivation no_rules (start_equal ∷ []) 1 (nothing ∷ []) (equal_made ∷ [])
equal-step = then (start_equal ∷ []) 0 [] nothing (start_equal ∷ []) (equal_made ∷ []) begins
    (built-step start_equal equal_made [] (x_call Eq 13) [] nothing Eq refl (called at_first Eq (Var 0 ∷ atom 13 ∷ []) tt refl)
    (built-equal (record {
      solvable = record { v = x_is 13; solves = x-solves 13; apart = All-nil (λ pair. HaveOneTree [] (x_is 13) pair → ⊥) };
      equations_are = refl;
      differ_are = refl;
      woken = [];
      wakes = wake-none;
      goals_are = refl;
    }))
    (nothing_said tt))

equal-ends : EndsAfter ask_equal 2 (nothing ∷ answer equal_made ∷ [])
equal-ends = ends ask_equal 2 (nothing ∷ answer equal_made ∷ [])
    (then (start_equal ∷ []) 1 (nothing ∷ []) (answer equal_made) (equal_made ∷ []) [] equal-step (answers refl))

-- `dif(aa, aa)`
abbrev atoms_call : Subject
atoms_call = built_call Dif (atom 13 ∷ atom 13 ∷ [])

abbrev start_atoms : Alternative
start_atoms = ask_start (ask_of [] (built_term Dif (atom 13 ∷ atom 13 ∷ []) ∷ [])) []

atoms-fail : (child : Alternative) → IsBuiltInChild start_atoms atoms_call [] Dif child → ⊥
atoms-fail child (built-apart u) =
    All-head (λ pair. HaveOneTree [] u.v pair → ⊥) (Part atoms_call 0, Part atoms_call 1) [] u.apart (record {
      along = λ path. argument-value u.v Dif (atom 13 ∷ atom 13 ∷ []) 0 path ∙ sym (argument-value u.v Dif (atom 13 ∷ atom 13 ∷ []) 1 path);
    })

dif-fails : EndsAfter (ask_of [] (built_term Dif (atom 13 ∷ atom 13 ∷ []) ∷ [])) 1 (nothing ∷ [])
dif-fails = ends (ask_of [] (built_term Dif (atom 13 ∷ atom 13 ∷ []) ∷ [])) 1 (nothing ∷ [])
    (then (start_atoms ∷ []) 0 [] nothing (start_atoms ∷ []) [] begins (fail-step start_atoms [] atoms_call [] Dif refl (called start_atoms.equations Dif (atom 13 ∷ atom 13 ∷ []) tt refl) atoms-fail))

-- `dif(x, aa) eq(x, aa)`
abbrev ask_broken : Ask
ask_broken = ask_of one_variable (built_term Dif (Var 0 ∷ atom 13 ∷ []) ∷ built_term Eq (Var 0 ∷ atom 13 ∷ []) ∷ [])

abbrev start_broken : Alternative
start_broken = ask_start ask_broken []

abbrev dif_added : Alternative
dif_added = record start_broken { goals = Call (x_call Eq 13) ∷ []; differ = x_pair Dif 13 ∷ [] }

broken-fail : (child : Alternative) → IsBuiltInChild dif_added (x_call Eq 13) [] Eq child → ⊥
broken-fail child (built-equal u) =
    let s = u.solvable in
    let same = All-head (HaveOneTree [] s.v) (x_pair Eq 13) [] s.solves.equal in
    All-head (λ pair. HaveOneTree [] s.v pair → ⊥) (x_pair Dif 13) [] s.apart (record {
      along = λ path.
          x-value s.v Dif (atom 13 ∷ []) path ∙ sym (x-value s.v Eq (atom 13 ∷ []) path) ∙ same.along path
          ∙ second-value s.v Eq 13 path ∙ sym (second-value s.v Dif 13 path);
    })

broken-first : IsDerivation no_rules (start_broken ∷ []) 1 (nothing ∷ []) (dif_added ∷ [])
broken-first = then (start_broken ∷ []) 0 [] nothing (start_broken ∷ []) (dif_added ∷ []) begins
    (built-step start_broken dif_added [] (x_call Dif 13) (Call (x_call Eq 13) ∷ []) nothing Dif refl (called at_first Dif (Var 0 ∷ atom 13 ∷ []) tt refl)
    (built-apart (record {
      v = x_is 14;
      solves = first-solves 14;
      apart = All-cons (λ pair. HaveOneTree [] (x_is 14) pair → ⊥) (x_pair Dif 13) [] (λ h. two-names (sym (x-value (x_is 14) Dif (atom 13 ∷ []) []) ∙ h.along [] ∙ second-value (x_is 14) Dif 13 [] ∙ atom-root (x_is 14) 13)) (All-nil (λ pair. HaveOneTree [] (x_is 14) pair → ⊥));
    }))
    (nothing_said tt))

dif-breaks : EndsAfter ask_broken 2 (nothing ∷ nothing ∷ [])
dif-breaks = ends ask_broken 2 (nothing ∷ nothing ∷ [])
    (then (start_broken ∷ []) 1 (nothing ∷ []) nothing (dif_added ∷ []) [] broken-first (fail-step dif_added [] (x_call Eq 13) [] Eq refl (called at_first Eq (Var 0 ∷ atom 13 ∷ []) tt refl) broken-fail))

-- `freeze(x, out(aa)) freeze(x, out(bb)) eq(x, cc) out(dd)`
abbrev start_woken : Alternative
start_woken = ask_start ask_woken []

abbrev first_frozen : Subject
first_frozen = built_call Freeze (Var 0 ∷ built_term Out (atom 13 ∷ []) ∷ [])

abbrev second_frozen : Subject
second_frozen = built_call Freeze (Var 0 ∷ built_term Out (atom 14 ∷ []) ∷ [])

abbrev last_call : Subject
last_call = built_call Out (atom 16 ∷ [])

abbrev after_one : Alternative
after_one = record start_woken { goals = Call second_frozen ∷ Call (x_call Eq 15) ∷ Call last_call ∷ []; frozen = (Part first_frozen 0, Part first_frozen 1) ∷ [] }

abbrev after_two : Alternative
after_two = record start_woken {
  goals = Call (x_call Eq 15) ∷ Call last_call ∷ [];
  frozen = (Part first_frozen 0, Part first_frozen 1) ∷ (Part second_frozen 0, Part second_frozen 1) ∷ [];
}

abbrev after_three : Alternative
after_three = record start_woken { goals = Call (Part first_frozen 1) ∷ Call (Part second_frozen 1) ∷ Call last_call ∷ []; equations = woken_equations }

abbrev after_four : Alternative
after_four = record start_woken { goals = Call (Part second_frozen 1) ∷ Call last_call ∷ []; equations = woken_equations }

abbrev after_five : Alternative
after_five = record start_woken { goals = Call last_call ∷ []; equations = woken_equations }

woken-two : IsDerivation no_rules (start_woken ∷ []) 2 (nothing ∷ nothing ∷ []) (after_two ∷ [])
woken-two = then (start_woken ∷ []) 1 (nothing ∷ []) nothing (after_one ∷ []) (after_two ∷ [])
    (then (start_woken ∷ []) 0 [] nothing (start_woken ∷ []) (after_one ∷ []) begins
    (built-step start_woken after_one [] first_frozen (Call second_frozen ∷ Call (x_call Eq 15) ∷ Call last_call ∷ []) nothing Freeze refl (called at_first Freeze (Var 0 ∷ built_term Out (atom 13 ∷ []) ∷ []) tt refl)
    (built-frozen (x-unknown Freeze (built_term Out (atom 13 ∷ []) ∷ []))) (nothing_said tt)))
    (built-step after_one after_two [] second_frozen (Call (x_call Eq 15) ∷ Call last_call ∷ []) nothing Freeze refl (called at_first Freeze (Var 0 ∷ built_term Out (atom 14 ∷ []) ∷ []) tt refl)
    (built-frozen (x-unknown Freeze (built_term Out (atom 14 ∷ []) ∷ []))) (nothing_said tt))

woken-three : IsDerivation no_rules (start_woken ∷ []) 3 (nothing ∷ nothing ∷ nothing ∷ []) (after_three ∷ [])
woken-three = then (start_woken ∷ []) 2 (nothing ∷ nothing ∷ []) nothing (after_two ∷ []) (after_three ∷ []) woken-two
    (built-step after_two after_three [] (x_call Eq 15) (Call last_call ∷ []) nothing Eq refl (called at_first Eq (Var 0 ∷ atom 15 ∷ []) tt refl)
    (built-equal (record {
      solvable = record { v = x_is 15; solves = x-solves 15; apart = All-nil (λ pair. HaveOneTree [] (x_is 15) pair → ⊥) };
      equations_are = refl;
      differ_are = refl;
      woken = Call (Part first_frozen 1) ∷ Call (Part second_frozen 1) ∷ [];
      wakes = wake-wakes (x-known 15 Freeze (built_term Out (atom 13 ∷ []) ∷ [])) (wake-wakes (x-known 15 Freeze (built_term Out (atom 14 ∷ []) ∷ [])) wake-none);
      goals_are = refl;
    }))
    (nothing_said tt))

abbrev three_said : List Says
three_said = nothing ∷ nothing ∷ nothing ∷ []

woken-five : IsDerivation no_rules (start_woken ∷ []) 5 (three_said ++ tree woken_equations first_said ∷ tree woken_equations second_said ∷ []) (after_five ∷ [])
woken-five = then (start_woken ∷ []) 4 (three_said ++ tree woken_equations first_said ∷ []) (tree woken_equations second_said) (after_four ∷ []) (after_five ∷ [])
    (then (start_woken ∷ []) 3 three_said (tree woken_equations first_said) (after_three ∷ []) (after_four ∷ []) woken-three
    (built-step after_three after_four [] (Part first_frozen 1) (Call (Part second_frozen 1) ∷ Call last_call ∷ []) (tree woken_equations first_said) Out refl (woken-called 13) built-out tree_said))
    (built-step after_four after_five [] (Part second_frozen 1) (Call last_call ∷ []) (tree woken_equations second_said) Out refl (woken-called 14) built-out tree_said)

woken-ends : EndsAfter ask_woken 7 (three_said ++ tree woken_equations first_said ∷ tree woken_equations second_said ∷ tree woken_equations third_said ∷ answer woken_answer ∷ [])
woken-ends = ends ask_woken 7 (three_said ++ tree woken_equations first_said ∷ tree woken_equations second_said ∷ tree woken_equations third_said ∷ answer woken_answer ∷ [])
    (then (start_woken ∷ []) 6 (three_said ++ tree woken_equations first_said ∷ tree woken_equations second_said ∷ tree woken_equations third_said ∷ []) (answer woken_answer) (woken_answer ∷ []) []
    (then (start_woken ∷ []) 5 (three_said ++ tree woken_equations first_said ∷ tree woken_equations second_said ∷ []) (tree woken_equations third_said) (after_five ∷ []) (woken_answer ∷ []) woken-five
    (built-step after_five woken_answer [] last_call [] (tree woken_equations third_said) Out refl (called woken_equations Out (atom 16 ∷ []) tt refl) built-out tree_said))
    (answers refl))

-- `free(x) eq(x, aa) bound(x)`
abbrev start_bound : Alternative
start_bound = ask_start ask_bound []

abbrev is_free : Alternative
is_free = record start_bound { goals = Call (x_call Eq 13) ∷ Call (built_call Bound (Var 0 ∷ [])) ∷ [] }

abbrev is_made : Alternative
is_made = record bound_answer { goals = Call (built_call Bound (Var 0 ∷ [])) ∷ [] }

bound-two : IsDerivation no_rules (start_bound ∷ []) 2 (nothing ∷ nothing ∷ []) (is_made ∷ [])
bound-two = then (start_bound ∷ []) 1 (nothing ∷ []) nothing (is_free ∷ []) (is_made ∷ [])
    (then (start_bound ∷ []) 0 [] nothing (start_bound ∷ []) (is_free ∷ []) begins
    (built-step start_bound is_free [] (built_call Free (Var 0 ∷ [])) (Call (x_call Eq 13) ∷ Call (built_call Bound (Var 0 ∷ [])) ∷ []) nothing Free refl (called at_first Free (Var 0 ∷ []) tt refl)
    (built-free (x-unknown Free [])) (nothing_said tt)))
    (built-step is_free is_made [] (x_call Eq 13) (Call (built_call Bound (Var 0 ∷ [])) ∷ []) nothing Eq refl (called at_first Eq (Var 0 ∷ atom 13 ∷ []) tt refl)
    (built-equal (record {
      solvable = record { v = x_is 13; solves = x-solves 13; apart = All-nil (λ pair. HaveOneTree [] (x_is 13) pair → ⊥) };
      equations_are = refl;
      differ_are = refl;
      woken = [];
      wakes = wake-none;
      goals_are = refl;
    }))
    (nothing_said tt))

bound-ends : EndsAfter ask_bound 4 (nothing ∷ nothing ∷ nothing ∷ answer bound_answer ∷ [])
bound-ends = ends ask_bound 4 (nothing ∷ nothing ∷ nothing ∷ answer bound_answer ∷ [])
    (then (start_bound ∷ []) 3 (nothing ∷ nothing ∷ nothing ∷ []) (answer bound_answer) (bound_answer ∷ []) []
    (then (start_bound ∷ []) 2 (nothing ∷ nothing ∷ []) nothing (is_made ∷ []) (bound_answer ∷ []) bound-two
    (built-step is_made bound_answer [] (built_call Bound (Var 0 ∷ [])) [] nothing Bound refl (called (x_made 13) Bound (Var 0 ∷ []) tt refl) (built-bound (x-known 13 Bound [])) (nothing_said tt)))
    (answers refl))

-- `bound(x)`
abbrev ask_unbound : Ask
ask_unbound = ask_of one_variable (built_term Bound (Var 0 ∷ []) ∷ [])

unbound-fail : (child : Alternative) → IsBuiltInChild (ask_start ask_unbound []) (built_call Bound (Var 0 ∷ [])) [] Bound child → ⊥
unbound-fail child (built-bound k) = x-unknown Bound [] k

bound-fails : EndsAfter ask_unbound 1 (nothing ∷ [])
bound-fails = ends ask_unbound 1 (nothing ∷ [])
    (then (ask_start ask_unbound [] ∷ []) 0 [] nothing (ask_start ask_unbound [] ∷ []) [] begins
    (fail-step (ask_start ask_unbound []) [] (built_call Bound (Var 0 ∷ [])) [] Bound refl (called at_first Bound (Var 0 ∷ []) tt refl) unbound-fail))

pub derivation_rows : DerivationRows
derivation_rows = record {
  no_goals = no-goals;
  none_wanted = none-wanted;
  no_budget = λ P ask kept. stops_at_budget P ask kept 0 [] (ask_start ask kept) [] begins;
  equal_stops = stops_at_budget no_rules ask_equal [] 1 (nothing ∷ []) equal_made [] equal-step;
  equal_ends = equal-ends;
  dif_fails = dif-fails;
  dif_breaks = dif-breaks;
  woken = woken-ends;
  said_first = woken-said 13;
  said_second = woken-said 14;
  said_third = λ v s. argument-value v Out (atom 16 ∷ []) 0 [] ∙ atom-root v 16;
  free_then_bound = bound-ends;
  bound_fails = bound-fails;
  cut_height = refl;
  cut_leaves = λ first second last. refl;
}
