-- The worked rows with rules.
use Rattle.std.proofs.Common.{◌≡◌, ◌≢◌, ℕ, ℤ, zero, suc, ◌<◌, List, [], ◌∷◌, ◌++◌, Some, None, refl, sym, ap, ◌∙◌, arith, lit≤}
use Rattle.std.specs.Prelude.{pos}
use Rattle.std.proofs.lemmas.Option.{same_Some}
use Rattle.std.proofs.lemmas.List.Elements.{All-nil, All-cons, All-head, All-tail}
use Rattle.mars_tree.specs.declared.label.Label.{Label}
use Rattle.mars_tree.specs.declared.label.Label.TheVariants.{Name as NameLabel, Int as IntLabel, Dot as DotLabel, Tup as TupLabel, Str as StrLabel}
use Rattle.mars_tree.specs.Label.{arity_of}
use Rattle.mars_tree.specs.Graph.{Node, IsNode, labelled, label as at_label}
use Rattle.mars_store.specs.Valuation.{Valuation, IsValuation, value}
use Rattle.mars_store.specs.Solutions.{constant}
use Rattle.mars_term.specs.declared.term.Term.{Term, Var, Int, Name}
use Rattle.mars_term.specs.declared.clause.Goal.{Goal}
use Rattle.mars_term.specs.declared.clause.Version.TheVariants.{One}
use Rattle.mars_rules.proofs.TermFacts.{label-Name, label-Int, arguments-Int}
use Rattle.mars_val.specs.declared.operation.Operation.TheVariants.{Add}
use Rattle.mars_val.specs.Number.{operation_name, operation_label}
use Rattle.mars_machine.specs.declared.built_in.BuiltIn.{BuiltIn}
use Rattle.mars_machine.specs.declared.built_in.BuiltIn.TheVariants.{Eq, Dif, Freeze, Val, Bound, Free, Out, OutText}
use Rattle.mars_machine.specs.Subjects.{Subject, Renamed, Part, subject_value}
use Rattle.mars_machine.specs.Equations.{Equations, Solves, AreSolvable, HaveOneTree, Knows, Forces}
use Rattle.mars_machine.specs.Alternatives.{Alternative, OpenGoal, Call, CutTo, ask_start, opened_goals}
use Rattle.mars_machine.specs.Children.{IsChildUnder, IsRuleChild, called_equations}
use Rattle.mars_machine.specs.Children.Wakes.{none as wake-none, wakes as wake-wakes, waits as wake-waits}
use Rattle.mars_machine.specs.Children.AreRuleChildren.{none as no-more, child as one-child, no_child as no-child}
use Rattle.mars_machine.specs.BuiltIns.{TermNumber, built_in_arity, built_in_label}
use Rattle.mars_machine.specs.BuiltIns.TermNumber.{itself, applied}
use Rattle.mars_machine.specs.BuiltIns.IsBuiltInChild.{equal as built-equal, frozen as built-frozen}
use Rattle.mars_machine.specs.Steps.{Says, nothing, CallsBuiltIn, IsDerivation, IsDerivationStep}
use Rattle.mars_machine.specs.Steps.BuiltInSays.{nothing_said}
use Rattle.mars_machine.specs.Steps.IsDerivationStep.{cuts, calls, goes_on}
use Rattle.mars_machine.specs.Steps.IsDerivation.{begins, goes}
use Rattle.mars_worked.specs.RowTerms.{atom, built_call}
use Rattle.mars_worked.specs.CutRows.{atom_rule, first_rule, cut_rules, ask_cut, frozen_call, equal_call, rr_called, waiting_qq, x_known_equations, qq_called, inner_called, after_cut, endless, CutRows}
use Rattle.mars_machine.proofs.Values.{value-name, value-argument, value-variable}
use Rattle.mars_machine.proofs.Steps.{shown-label, forced-once}
use Rattle.mars_worked.proofs.Rows.{x_is, x-valid, x_pair, argument-value, x-value, second-value, atom-root, x-same, two-names, called}

-- an atom has one tree, however it is renamed
atoms-equal : (v : Valuation) (i j name : ℕ) (path : List ℕ) → subject_value [] v (Renamed i (atom name)) path ≡ subject_value [] v (Renamed j (atom name)) path
atoms-equal v i j name [] = value-name [] v i (record { 0 = name }) [] ∙ sym (value-name [] v j (record { 0 = name }) [])
atoms-equal v i j name (k ∷ path) = value-argument [] v i (record { 0 = name }) [] k path ∙ sym (value-argument [] v j (record { 0 = name }) [] k path)

-- the goal that was frozen is the atom `qq`
frozen-value : (v : Valuation) (path : List ℕ) → subject_value [] v (Part frozen_call 1) path ≡ subject_value [] v (Renamed 0 (atom 17)) path
frozen-value v path = argument-value v Freeze (Var 0 ∷ atom 17 ∷ []) 1 path

-- the equations, in the order in which they come
abbrev first_pair : Subject × Subject
first_pair = (Renamed 0 (atom 18), Renamed 1 (atom 18))

abbrev third_pair : Subject × Subject
third_pair = (Part frozen_call 1, Renamed 1 (atom 17))

abbrev fourth_pair : Subject × Subject
fourth_pair = (Renamed 1 (atom 18), Renamed 1 (atom 18))

first-holds : (v : Valuation) → HaveOneTree [] v first_pair
first-holds v = record { along = atoms-equal v 0 1 18 }

second-holds : HaveOneTree [] (x_is 13) (x_pair Eq 13)
second-holds = record { along = x-same Eq 13 }

third-holds : (v : Valuation) → HaveOneTree [] v third_pair
third-holds v = record { along = λ path. frozen-value v path ∙ atoms-equal v 0 1 17 path }

fourth-holds : (v : Valuation) → HaveOneTree [] v fourth_pair
fourth-holds v = record { along = λ path. refl }

rr-solved : (name : ℕ) → Solves rr_called (x_is name)
rr-solved name = record { valuation = x-valid name; equal = All-cons (HaveOneTree [] (x_is name)) first_pair [] (first-holds (x_is name)) (All-nil (HaveOneTree [] (x_is name))) }

known-solved : Solves x_known_equations (x_is 13)
known-solved =
    let P = HaveOneTree [] (x_is 13) in
    record { valuation = x-valid 13; equal = All-cons P first_pair (x_pair Eq 13 ∷ []) (first-holds (x_is 13)) (All-cons P (x_pair Eq 13) [] second-holds (All-nil P)) }

qq-solved : Solves qq_called (x_is 13)
qq-solved =
    let P = HaveOneTree [] (x_is 13) in
    record {
      valuation = x-valid 13;
      equal = All-cons P first_pair (x_pair Eq 13 ∷ third_pair ∷ []) (first-holds (x_is 13))
          (All-cons P (x_pair Eq 13) (third_pair ∷ []) second-holds (All-cons P third_pair [] (third-holds (x_is 13)) (All-nil P)));
    }

inner-solved : Solves inner_called (x_is 13)
inner-solved =
    let P = HaveOneTree [] (x_is 13) in
    record {
      valuation = x-valid 13;
      equal = All-cons P first_pair (x_pair Eq 13 ∷ third_pair ∷ fourth_pair ∷ []) (first-holds (x_is 13))
          (All-cons P (x_pair Eq 13) (third_pair ∷ fourth_pair ∷ []) second-holds
          (All-cons P third_pair (fourth_pair ∷ []) (third-holds (x_is 13)) (All-cons P fourth_pair [] (fourth-holds (x_is 13)) (All-nil P))));
    }

solvable : (e : Equations) (v : Valuation) → Solves e v → AreSolvable e []
solvable e v s = record { v = v; solves = s; apart = All-nil (λ pair. HaveOneTree e.kept v pair → ⊥) }

-- x isn't known after `rr`, and it is after the equation
x-unknown : (terms : List Term) → Knows rr_called (Part (built_call Freeze (Var 0 ∷ terms)) 0) → ⊥
x-unknown terms k = two-names (
    sym (x-value (x_is 14) Freeze terms []) ∙ k.1 (x_is 14) (rr-solved 14) ∙ sym (k.1 (x_is 13) (rr-solved 13)) ∙ x-value (x_is 13) Freeze terms []
    )

x-known : (terms : List Term) → Knows x_known_equations (Part (built_call Freeze (Var 0 ∷ terms)) 0)
x-known terms = (
  constant 13,
  λ v s.
      let P = HaveOneTree [] v in
      x-value v Freeze terms [] ∙ sym (x-value v Eq (atom 13 ∷ []) []) ∙ (All-head P (x_pair Eq 13) [] (All-tail P first_pair (x_pair Eq 13 ∷ []) s.equal)).along []
      ∙ second-value v Eq 13 [] ∙ atom-root v 13,
)

-- a call that is an atom is of no built-in
no-built-in : (e : Equations) (v : Valuation) → Solves e v → (call : Subject) (name : ℕ) → Forces e call [] (constant name) → (built_in : BuiltIn) → CallsBuiltIn One e call built_in → ⊥
no-built-in e v s call name f built_in k =
    let same = ap arity_of (shown-label (constant name) (built_in_label built_in) (forced-once e v s call [] (constant name) (built_in_label built_in) f k.1)) in
    none built_in same
  where
    none : (b : BuiltIn) → 0 ≡ built_in_arity b → ⊥
    none Eq e = absurd (omega arith)
    none Dif e = absurd (omega arith)
    none Freeze e = absurd (omega arith)
    none Val e = absurd (omega arith)
    none Bound e = absurd (omega arith)
    none Free e = absurd (omega arith)
    none Out e = absurd (omega arith)
    none OutText e = absurd (omega arith)

-- its child by a rule of that atom, and none by one of another
atom-child : (parent : Alternative) (v : Valuation) → Solves parent.equations v → (call : Subject) (name : ℕ) → Forces parent.equations call [] (constant name)
    → (others : List OpenGoal) (height : ℕ) (body : List Goal) (child : Alternative)
    → IsChildUnder parent (called_equations parent.equations call (atom_rule name body)) (opened_goals height parent.equations.next body ++ others) child
    → IsRuleChild parent call others height (atom_rule name body) child
atom-child parent v s call name f others height body child u = record {
  takes = λ label g. label-Name (record { 0 = name }) [] ∙ ap Some (shown-label (constant name) label (forced-once parent.equations v s call [] (constant name) label f g));
  under = u;
}

other-atom : (parent : Alternative) (call : Subject) (name another : ℕ) → Forces parent.equations call [] (constant name) → (name ≡ another → ⊥)
    → (others : List OpenGoal) (height : ℕ) (body : List Goal) (child : Alternative) → IsRuleChild parent call others height (atom_rule another body) child → ⊥
other-atom parent call name another f apart others height body child u =
    let same : Some (constant another) ≡ Some (constant name) = sym (label-Name (record { 0 = another }) []) ∙ u.takes (constant name) f in
    apart (sym (ap number (same_Some (constant another) (constant name) same)))
  where
    number : Label → ℕ
    number (NameLabel n arity) = n.0
    number (IntLabel z) = 0
    number DotLabel = 0
    number (TupLabel arity) = 0
    number (StrLabel spelling) = 0

then : (start : List Alternative) (steps : ℕ) (said : List Says) (says : Says) (before after : List Alternative) → IsDerivation cut_rules start steps said before → IsDerivationStep cut_rules before says after
    → IsDerivation cut_rules start (suc steps) (said ++ says ∷ []) after
then start steps said says before after d h = goes d h

abbrev start_cut : Alternative
start_cut = ask_start ask_cut []

abbrev one_frozen : Alternative
one_frozen = record start_cut { goals = Call (Renamed 0 (atom 18)) ∷ Call equal_call ∷ []; frozen = (Part frozen_call 0, Part frozen_call 1) ∷ [] }

abbrev qq_woken : Alternative
qq_woken = record start_cut { goals = Call (Part frozen_call 1) ∷ []; equations = x_known_equations }

abbrev in_qq : Alternative
in_qq = record start_cut { goals = Call (Renamed 1 (atom 18)) ∷ CutTo 1 ∷ []; equations = qq_called }

abbrev at_cut : Alternative
at_cut = record start_cut { goals = CutTo 1 ∷ []; equations = inner_called }

at-first : (name : ℕ) → Solves start_cut.equations (x_is name)
at-first name = record { valuation = x-valid name; equal = All-nil (HaveOneTree [] (x_is name)) }

rr-forced : (e : Equations) (i : ℕ) → e.kept ≡ [] → Forces e (Renamed i (atom 18)) [] (constant 18)
rr-forced e i kept v s = value-name e.kept v i (record { 0 = 18 }) []

qq-forced : Forces x_known_equations (Part frozen_call 1) [] (constant 17)
qq-forced v s = frozen-value v [] ∙ atom-root v 17

x-unknown-first : Knows start_cut.equations (Part frozen_call 0) → ⊥
x-unknown-first k = two-names (
    sym (x-value (x_is 14) Freeze (atom 17 ∷ []) []) ∙ k.1 (x_is 14) (at-first 14) ∙ sym (k.1 (x_is 13) (at-first 13)) ∙ x-value (x_is 13) Freeze (atom 17 ∷ []) []
    )

-- `freeze(x, qq)`
step-one : IsDerivation cut_rules (start_cut ∷ []) 1 (nothing ∷ []) (one_frozen ∷ [])
step-one = then (start_cut ∷ []) 0 [] nothing (start_cut ∷ []) (one_frozen ∷ []) begins
    (goes_on {first = start_cut} {child = one_frozen} {rest = []} {call = frozen_call} {others = Call (Renamed 0 (atom 18)) ∷ Call equal_call ∷ []} Freeze refl
    (called start_cut.equations Freeze (Var 0 ∷ atom 17 ∷ []) tt refl) (built-frozen x-unknown-first) (nothing_said tt))

-- `rr` has a child by its second rule, and one by its third
rr-child : IsRuleChild one_frozen (Renamed 0 (atom 18)) (Call equal_call ∷ []) 0 (atom_rule 18 []) waiting_qq
rr-child = atom-child one_frozen (x_is 13) (at-first 13) (Renamed 0 (atom 18)) 18 (rr-forced start_cut.equations 0 refl) (Call equal_call ∷ []) 0 [] waiting_qq (record {
  solvable = solvable rr_called (x_is 13) (rr-solved 13);
  equations_are = refl;
  differ_are = refl;
  woken = [];
  wakes = wake-waits (x-unknown (atom 17 ∷ [])) wake-none;
  goals_are = refl;
})

apart-names : ◌≡◌ {A = ℕ} 18 17 → ⊥
apart-names e = absurd (omega (arith, e))

apart-others : ◌≡◌ {A = ℕ} 17 18 → ⊥
apart-others e = absurd (omega (arith, e))

step-two : IsDerivation cut_rules (start_cut ∷ []) 2 (nothing ∷ nothing ∷ []) (waiting_qq ∷ waiting_qq ∷ [])
step-two = then (start_cut ∷ []) 1 (nothing ∷ []) nothing (one_frozen ∷ []) (waiting_qq ∷ waiting_qq ∷ []) step-one
    (calls {first = one_frozen} {rest = []} {children = waiting_qq ∷ waiting_qq ∷ []} {call = Renamed 0 (atom 18)} {others = Call equal_call ∷ []} refl
    (no-built-in start_cut.equations (x_is 13) (at-first 13) (Renamed 0 (atom 18)) 18 (rr-forced start_cut.equations 0 refl))
    (no-child (other-atom one_frozen (Renamed 0 (atom 18)) 18 17 (rr-forced start_cut.equations 0 refl) apart-names (Call equal_call ∷ []) 0 (first_rule).body)
    (one-child rr-child (one-child rr-child no-more))))

-- `eq(x, aa)` wakes `qq` in the first of them
step-three : IsDerivation cut_rules (start_cut ∷ []) 3 (nothing ∷ nothing ∷ nothing ∷ []) (qq_woken ∷ waiting_qq ∷ [])
step-three = then (start_cut ∷ []) 2 (nothing ∷ nothing ∷ []) nothing (waiting_qq ∷ waiting_qq ∷ []) (qq_woken ∷ waiting_qq ∷ []) step-two
    (goes_on {first = waiting_qq} {child = qq_woken} {rest = waiting_qq ∷ []} {call = equal_call} {others = []} Eq refl
    (called rr_called Eq (Var 0 ∷ atom 13 ∷ []) tt refl)
    (built-equal (record {
      solvable = solvable x_known_equations (x_is 13) known-solved;
      equations_are = refl;
      differ_are = refl;
      woken = Call (Part frozen_call 1) ∷ [];
      wakes = wake-wakes (x-known (atom 17 ∷ [])) wake-none;
      goals_are = refl;
    }))
    (nothing_said tt))

-- `qq` is called with one alternative after it
qq-child : IsRuleChild qq_woken (Part frozen_call 1) [] 1 first_rule in_qq
qq-child = atom-child qq_woken (x_is 13) known-solved (Part frozen_call 1) 17 qq-forced [] 1 (first_rule).body in_qq (record {
  solvable = solvable qq_called (x_is 13) qq-solved;
  equations_are = refl;
  differ_are = refl;
  woken = [];
  wakes = wake-none;
  goals_are = refl;
})

step-four : IsDerivation cut_rules (start_cut ∷ []) 4 (nothing ∷ nothing ∷ nothing ∷ nothing ∷ []) (in_qq ∷ waiting_qq ∷ [])
step-four = then (start_cut ∷ []) 3 (nothing ∷ nothing ∷ nothing ∷ []) nothing (qq_woken ∷ waiting_qq ∷ []) (in_qq ∷ waiting_qq ∷ []) step-three
    (calls {first = qq_woken} {rest = waiting_qq ∷ []} {children = in_qq ∷ []} {call = Part frozen_call 1} {others = []} refl
    (no-built-in x_known_equations (x_is 13) known-solved (Part frozen_call 1) 17 qq-forced)
    (one-child qq-child
    (no-child (other-atom qq_woken (Part frozen_call 1) 17 18 qq-forced apart-others [] 1 [])
    (no-child (other-atom qq_woken (Part frozen_call 1) 17 18 qq-forced apart-others [] 1 []) no-more))))

-- its `rr` has two children, which both have the cut of `qq`
inner-child : IsRuleChild in_qq (Renamed 1 (atom 18)) (CutTo 1 ∷ []) 1 (atom_rule 18 []) at_cut
inner-child = atom-child in_qq (x_is 13) qq-solved (Renamed 1 (atom 18)) 18 (rr-forced qq_called 1 refl) (CutTo 1 ∷ []) 1 [] at_cut (record {
  solvable = solvable inner_called (x_is 13) inner-solved;
  equations_are = refl;
  differ_are = refl;
  woken = [];
  wakes = wake-none;
  goals_are = refl;
})

step-five : IsDerivation cut_rules (start_cut ∷ []) 5 (nothing ∷ nothing ∷ nothing ∷ nothing ∷ nothing ∷ []) (at_cut ∷ at_cut ∷ waiting_qq ∷ [])
step-five = then (start_cut ∷ []) 4 (nothing ∷ nothing ∷ nothing ∷ nothing ∷ []) nothing (in_qq ∷ waiting_qq ∷ []) (at_cut ∷ at_cut ∷ waiting_qq ∷ []) step-four
    (calls {first = in_qq} {rest = waiting_qq ∷ []} {children = at_cut ∷ at_cut ∷ []} {call = Renamed 1 (atom 18)} {others = CutTo 1 ∷ []} refl
    (no-built-in qq_called (x_is 13) qq-solved (Renamed 1 (atom 18)) 18 (rr-forced qq_called 1 refl))
    (no-child (other-atom in_qq (Renamed 1 (atom 18)) 18 17 (rr-forced qq_called 1 refl) apart-names (CutTo 1 ∷ []) 1 (first_rule).body)
    (one-child inner-child (one-child inner-child no-more))))

-- the cut leaves the last alternative
step-six : IsDerivation cut_rules (start_cut ∷ []) 6 (nothing ∷ nothing ∷ nothing ∷ nothing ∷ nothing ∷ nothing ∷ []) (after_cut ∷ waiting_qq ∷ [])
step-six = then (start_cut ∷ []) 5 (nothing ∷ nothing ∷ nothing ∷ nothing ∷ nothing ∷ []) nothing (at_cut ∷ at_cut ∷ waiting_qq ∷ []) (after_cut ∷ waiting_qq ∷ []) step-five
    (cuts {first = at_cut} {rest = at_cut ∷ waiting_qq ∷ []} {height = 1} {others = []} refl)

-- an integer's tree
value-integer : (v : Valuation) (i : ℕ) (z : ℤ) → subject_value [] v (Renamed i (Int z)) [] ≡ Some (at_label (IntLabel z))
value-integer v i z = rw (label-Int z) refl

below-integer : (v : Valuation) (i : ℕ) (z : ℤ) (k : ℕ) (path : List ℕ) → subject_value [] v (Renamed i (Int z)) (k ∷ path) ≡ None
below-integer v i z k path = rw (label-Int z, arguments-Int z) refl

-- `add(1, add(1, ..))`
abbrev endless_graph : List Node
endless_graph = labelled (operation_label Add) (1 ∷ 0 ∷ []) ∷ labelled (IntLabel (pos 1)) [] ∷ []

abbrev endless_tree : Valuation
endless_tree = record { graph = endless_graph; nodes = 0 ∷ [] }

first-leaf : (labelled (operation_label Add) (1 ∷ 0 ∷ [])).label ≡ None → ⊥
first-leaf e = cc

second-leaf : (labelled (IntLabel (pos 1)) []).label ≡ None → ⊥
second-leaf e = cc

endless-valid : IsValuation 1 endless_tree
endless-valid = record {
  graph = All-cons (IsNode 2) (labelled (operation_label Add) (1 ∷ 0 ∷ [])) (labelled (IntLabel (pos 1)) [] ∷ [])
      (record { kids = refl; in_range = All-cons (λ kid. kid < 2) 1 (0 ∷ []) (lit≤ tt) (All-cons (λ kid. kid < 2) 0 [] (lit≤ tt) (All-nil (λ kid. kid < 2))) })
      (All-cons (IsNode 2) (labelled (IntLabel (pos 1)) []) [] (record { kids = refl; in_range = All-nil (λ kid. kid < 2) }) (All-nil (IsNode 2)));
  ground = All-cons (λ node. node.label ≢ None) (labelled (operation_label Add) (1 ∷ 0 ∷ [])) (labelled (IntLabel (pos 1)) [] ∷ []) first-leaf
      (All-cons (λ node. node.label ≢ None) (labelled (IntLabel (pos 1)) []) [] second-leaf (All-nil (λ node. node.label ≢ None)));
  each = refl;
  inside = All-cons (λ n. n < 2) 0 [] (lit≤ tt) (All-nil (λ n. n < 2));
}

abbrev endless_terms : List Term
endless_terms = Int (pos 1) ∷ Var 0 ∷ []

endless-same : (path : List ℕ) → value endless_tree 0 path ≡ subject_value [] endless_tree (Renamed 0 (Name (record { 0 = operation_name Add }) endless_terms)) path
endless-same [] = sym (value-name [] endless_tree 0 (record { 0 = operation_name Add }) endless_terms)
endless-same (zero ∷ []) = sym (value-argument [] endless_tree 0 (record { 0 = operation_name Add }) endless_terms 0 [] ∙ value-integer endless_tree 0 (pos 1))
endless-same (zero ∷ k ∷ path) = sym (value-argument [] endless_tree 0 (record { 0 = operation_name Add }) endless_terms 0 (k ∷ path) ∙ below-integer endless_tree 0 (pos 1) k path)
endless-same (suc zero ∷ path) = sym (value-argument [] endless_tree 0 (record { 0 = operation_name Add }) endless_terms 1 path ∙ value-variable [] endless_tree 0 0 path)
endless-same (suc (suc k) ∷ path) = sym (value-argument [] endless_tree 0 (record { 0 = operation_name Add }) endless_terms (suc (suc k)) path)

abbrev endless_pair : Subject × Subject
endless_pair = (Renamed 0 (Var 0), Renamed 0 (Name (record { 0 = operation_name Add }) endless_terms))

endless-solved : Solves endless endless_tree
endless-solved = record {
  valuation = endless-valid;
  equal = All-cons (HaveOneTree [] endless_tree) endless_pair [] (record { along = λ path. value-variable [] endless_tree 0 0 path ∙ endless-same path }) (All-nil (HaveOneTree [] endless_tree));
}

add-integer : (z : ℤ) → Some (at_label (operation_label Add)) ≡ Some (at_label (IntLabel z)) → ⊥
add-integer z e = cc

-- what has the tree of x has no number: its second argument has that tree, too
no-number : (s : Subject) → ((v : Valuation) → Solves endless v → (path : List ℕ) → subject_value [] v s path ≡ value v 0 path) → (z : ℤ) → TermNumber endless s z → ⊥
no-number s same z (itself f) = add-integer z (sym (same endless_tree endless-solved []) ∙ f endless_tree endless-solved)
no-number s same z (applied {y = y} operation f left right is) =
    no-number (Part s 1)
    (λ v k path.
    same v k (1 ∷ path)
    ∙ sym (value-variable [] v 0 0 (1 ∷ path))
    ∙ (All-head (HaveOneTree [] v) endless_pair [] k.equal).along (1 ∷ path)
    ∙ value-argument [] v 0 (record { 0 = operation_name Add }) endless_terms 1 path
    ∙ value-variable [] v 0 0 path)
    y right

pub cut_rows : CutRows
cut_rows = record {
  woken_cut = step-six;
  by_zero = λ z h. h.0 refl;
  endless_none = λ z h. no-number (Renamed 0 (Var 0)) (λ v k path. value-variable [] v 0 0 path) z h;
}
