-- What the code's step of an ask is.
use Rattle.std.proofs.Common.{◌≡◌, ◌≢◌, ◌↔◌, ℕ, suc, ◌+◌, List, [], ◌∷◌, ◌++◌, Bool, true, false, not, nat_eq, Option, Some, None, refl, ap, sym, ◌∙◌, subst, arith, inl, inr}
use Rattle.std.specs.Prelude.{◌⊎◌, if◌then◌else◌, MatchOption, is_some}
use Rattle.std.proofs.lemmas.Bool.{eqb-true, eq-eqb}
use Rattle.mars_canon.specs.Canon.{Rooted}
use Rattle.mars_term.specs.declared.clause.Ask.{Ask}
use Rattle.mars_machine.specs.declared.ending.Ending.{Ending}
use Rattle.mars_machine.specs.declared.ending.Ending.TheVariants.{End, Enough, Stopped}
use Rattle.mars_machine.specs.declared.stepped.Stepped.{Stepped}
use Rattle.mars_machine.specs.declared.stepped.Stepped.TheVariants.{Went, Said, SaidText, Answered, Ended}
use Rattle.mars_tree.specs.Graph.{Node}
use Rattle.mars_rules.specs.RuleLists.{RuleList}
use Rattle.mars_machine.specs.Alternatives.{Alternative, ask_start}
use Rattle.mars_machine.specs.Steps.{Says, nothing, tree, text, answer, IsAskRun}
use Rattle.mars_machine.specs.Steps.IsDerivation.{begins, goes}
use Rattle.mars_machine.specs.Asks.{answer_count, HasEnough, EndsNow}
use Rattle.mars_machine.specs.Machines.{SeenMachine, IsMachineStep, TellsNext, TellsSaying, TellsLeft, stepped_machine, started_machine}
use Rattle.mars_machine.proofs.Runs.{derivation_once}
use Rattle.mars_session.specs.Lines.{told_line, told_answer}
use Rattle.mars_session.specs.AskEvents.{AskEvent, GoesOnNow, ClosesBy, IsStepEvent}
use Rattle.mars_session.specs.LinesInside.{CanBeWritten}
use Rattle.mars_session.specs.AskingInside.{IsAskGoing, ending_at, is_enough, counted_answer, end_text}
use Rattle.mars_session.proofs.AskTexts.{below_budget}

told : (b : Bool) → (b ≡ true) ⊎ (b ≡ false)
told true = inl refl
told false = inr refl

-- Where an ask ends, by its numbers.
enough_is : (most : Option ℕ) (said : List Says) → is_enough most (answer_count said) ≡ true → HasEnough most said
enough_is None said e = absurd (cc e)
enough_is (Some k) said e = ap (λ n. Some n) (eqb-true k (answer_count said) e)

enough_not : (most : Option ℕ) (said : List Says) → is_enough most (answer_count said) ≡ false → HasEnough most said → ⊥
enough_not None said e h = cc h
enough_not (Some k) said e h = let same : k ≡ answer_count said = cc h in cc (sym (eq-eqb k (answer_count said) same) ∙ e)

module _ (budget : ℕ) (most : Option ℕ) (steps : ℕ) (said : List Says) (state : List Alternative) (left : Bool) (is_left : (left ≡ true) ↔ (state ≢ [])) where
  EndsBy : Option Ending → Type 0
  EndsBy o = MatchOption o (GoesOnNow budget most steps said state) (λ e. EndsNow budget most steps said state e)

  none_left : left ≡ false → state ≡ []
  none_left e = by_state state refl
    where
      by_state : (s : List Alternative) → state ≡ s → state ≡ []
      by_state [] same = same
      by_state (first ∷ rest) same = absurd (cc (sym e ∙ is_left.1 (λ none. cc (sym same ∙ none))))

  by_steps : (b : Bool) → nat_eq steps budget ≡ b → (HasEnough most said → ⊥) → state ≢ [] → EndsBy (if b then Some Stopped else None)
  unfolding EndsBy
  by_steps true e never some = (eqb-true steps budget e, some, never)
  by_steps false e never some = on
    where
      on : GoesOnNow budget most steps said state
      on Enough h = never h
      on End h = some h.0
      on Stopped h = cc (sym (eq-eqb steps budget h.0) ∙ e)

  by_left : (b : Bool) → left ≡ b → (HasEnough most said → ⊥) → EndsBy (if not b then Some End else if nat_eq steps budget then Some Stopped else None)
  unfolding EndsBy
  by_left true e never = by_steps (nat_eq steps budget) refl never (is_left.0 e)
  by_left false e never = (none_left e, never)

  by_enough : (b : Bool) → is_enough most (answer_count said) ≡ b → EndsBy (if b then Some Enough else if not left then Some End else if nat_eq steps budget then Some Stopped else None)
  unfolding EndsBy
  by_enough true e = enough_is most said e
  by_enough false e = by_left left refl (enough_not most said e)

  pub ends_by : (answers : ℕ) → answers ≡ answer_count said → MatchOption (ending_at most answers left steps budget) (GoesOnNow budget most steps said state) (λ e. EndsNow budget most steps said state e)
  unfolding EndsBy
  ends_by answers same = subst (λ (n : ℕ). MatchOption (ending_at most n left steps budget) (GoesOnNow budget most steps said state) (λ e. EndsNow budget most steps said state e)) (sym same) (by_enough (is_enough most (answer_count said)) refl)

-- A step of a machine whose ask goes on tells something.
not_ended : (budget : ℕ) (m : SeenMachine) (answers : ℕ) → IsAskGoing budget m answers → TellsLeft m false → ⊥
not_ended budget m answers a t =
    let same = derivation_once m.rules m.ask m.kept m.steps a.said t.said a.state t.state a.run t.run in
    none t.state refl same.1
  where
    none : (s : List Alternative) → t.state ≡ s → a.state ≡ t.state → ⊥
    none [] e same = a.goes_on End (same ∙ e, λ h. a.goes_on Enough h)
    none (first ∷ rest) e same = cc (t.left_is.1 (λ nil. cc (sym e ∙ nil)))

pub tells_next : (budget : ℕ) (m : SeenMachine) (answers : ℕ) (stepped : Stepped) → IsAskGoing budget m answers → IsMachineStep m stepped → TellsNext m stepped
tells_next budget m answers Ended a t = absurd (not_ended budget m answers a t)
tells_next budget m answers Went a t = t
tells_next budget m answers (Said c) a t = t
tells_next budget m answers (SaidText s) a t = t
tells_next budget m answers (Answered d) a t = t

written : (ask : Ask) (stepped : Stepped) (says : Says) → TellsSaying ask stepped says → CanBeWritten ask.vars stepped
written ask Went says t = tt
written ask (Said c) says t = t.3.count
written ask (SaidText s) says t = tt
written ask (Answered a) says t = t.2.vars
written ask Ended says t = tt

pub can_be_written : (budget : ℕ) (m : SeenMachine) (answers : ℕ) (stepped : Stepped) → IsAskGoing budget m answers → IsMachineStep m stepped → CanBeWritten m.ask.vars stepped
can_be_written budget m answers stepped a t = let next = tells_next budget m answers stepped a t in written m.ask stepped next.says next.tells

next_is : (m : SeenMachine) (stepped : Stepped) → TellsNext m stepped → stepped_machine m stepped ≡ record m { steps = m.steps + 1 }
next_is m Went t = refl
next_is m (Said c) t = refl
next_is m (SaidText s) t = refl
next_is m (Answered d) t = refl
next_is m Ended t = absurd t.tells

pub after_step : (budget : ℕ) (m : SeenMachine) (answers : ℕ) (stepped : Stepped) → IsAskGoing budget m answers → IsMachineStep m stepped → stepped_machine m stepped ≡ record m { steps = m.steps + 1 }
after_step budget m answers stepped a t = next_is m stepped (tells_next budget m answers stepped a t)

-- the answers with what was told
counted_on : (ask : Ask) (stepped : Stepped) (says : Says) (said : List Says) → TellsSaying ask stepped says → answer_count (said ++ says ∷ []) ≡ counted_answer (answer_count said) (told_answer stepped)
counted_on ask stepped says [] t = first stepped says t
  where
    first : (stepped : Stepped) (says : Says) → TellsSaying ask stepped says → answer_count (says ∷ []) ≡ counted_answer 0 (told_answer stepped)
    first Went nothing t = refl
    first Went (tree e s) t = absurd (cc t)
    first Went (text s) t = absurd (cc t)
    first Went (answer x) t = absurd (cc t)
    first (Said c) nothing t = refl
    first (Said c) (tree e s) t = refl
    first (Said c) (text s) t = refl
    first (Said c) (answer x) t = absurd (cc t.2)
    first (SaidText v) nothing t = refl
    first (SaidText v) (tree e s) t = refl
    first (SaidText v) (text s) t = refl
    first (SaidText v) (answer x) t = absurd (cc t)
    first (Answered d) nothing t = absurd (cc t.1)
    first (Answered d) (tree e s) t = absurd (cc t.1)
    first (Answered d) (text s) t = absurd (cc t.1)
    first (Answered d) (answer x) t = omega arith
    first Ended says t = absurd t
counted_on ask stepped says (nothing ∷ said) t = counted_on ask stepped says said t
counted_on ask stepped says (tree e s ∷ said) t = counted_on ask stepped says said t
counted_on ask stepped says (text s ∷ said) t = counted_on ask stepped says said t
counted_on ask stepped says (answer x ∷ said) t = ap (λ (n : ℕ). n + 1) (counted_on ask stepped says said t) ∙ one_later (told_answer stepped)
  where
    one_later : (o : Option Rooted) → counted_answer (answer_count said) o + 1 ≡ counted_answer (answer_count said + 1) o
    one_later (Some c) = refl
    one_later None = refl

-- What a step of an ask that goes on comes to.
closes_by : (budget : ℕ) (most : Option ℕ) (steps : ℕ) (said : List Says) (state : List Alternative) (o : Option Ending) → MatchOption o (GoesOnNow budget most steps said state) (λ e. EndsNow budget most steps said state e)
    → ClosesBy budget most steps said state (end_text o steps) (is_some o)
closes_by budget most steps said state (Some e) h = (e, h, refl)
closes_by budget most steps said state None h = (h, refl)

goes_by : (budget : ℕ) (most : Option ℕ) (steps : ℕ) (said : List Says) (state : List Alternative) (o : Option Ending) → MatchOption o (GoesOnNow budget most steps said state) (λ e. EndsNow budget most steps said state e)
    → is_some o ≡ false → GoesOnNow budget most steps said state
goes_by budget most steps said state (Some e) h is = absurd (cc is)
goes_by budget most steps said state None h is = h

abbrev pub stepped_on : SeenMachine → SeenMachine
stepped_on m = record m { steps = m.steps + 1 }

-- the event that the code finds
abbrev pub found_event : List (List ℕ) → SeenMachine → ℕ → Stepped → Option Ending → AskEvent
found_event names m answers stepped o = record { text = told_line names m.ask.vars answers stepped ++ end_text o (m.steps + 1); answer = told_answer stepped; ends = is_some o }

module _ (names : List (List ℕ)) (budget : ℕ) (m : SeenMachine) (answers : ℕ) (stepped : Stepped) (left : Bool) (a : IsAskGoing budget m answers) (is : IsMachineStep m stepped) (t : TellsLeft (stepped_on m) left) where
  one : m.steps + 1 ≡ suc m.steps
  one = omega arith

  next : TellsNext m stepped
  next = tells_next budget m answers stepped a is

  said_same : a.said ≡ next.said
  unfolding next
  said_same = (derivation_once m.rules m.ask m.kept m.steps a.said next.said a.state next.state a.run next.run).0

  state_same : a.state ≡ next.state
  unfolding next
  state_same = (derivation_once m.rules m.ask m.kept m.steps a.said next.said a.state next.state a.run next.run).1

  run_on : IsAskRun m.rules m.ask m.kept (suc m.steps) (next.said ++ next.says ∷ []) next.after
  unfolding next
  run_on = goes next.run next.step

  left_is : (left ≡ true) ↔ (next.after ≢ [])
  unfolding next
  left_is =
      let run : IsAskRun m.rules m.ask m.kept (suc m.steps) t.said t.state = subst (λ (n : ℕ). IsAskRun m.rules m.ask m.kept n t.said t.state) one t.run in
      let same = derivation_once m.rules m.ask m.kept (suc m.steps) t.said (next.said ++ next.says ∷ []) t.state next.after run run_on in
      subst (λ (s : List Alternative). (left ≡ true) ↔ (s ≢ [])) same.1 t.left_is

  count : counted_answer answers (told_answer stepped) ≡ answer_count (next.said ++ next.says ∷ [])
  unfolding next
  count = ap (λ (n : ℕ). counted_answer n (told_answer stepped)) (a.count ∙ ap answer_count said_same) ∙ sym (counted_on m.ask stepped next.says next.said next.tells)

  ends : (o : Option Ending) → o ≡ ending_at m.ask.most (counted_answer answers (told_answer stepped)) left (m.steps + 1) budget
      → MatchOption o (GoesOnNow budget m.ask.most (suc m.steps) (next.said ++ next.says ∷ []) next.after) (λ e. EndsNow budget m.ask.most (suc m.steps) (next.said ++ next.says ∷ []) next.after e)
  unfolding next
  ends o is =
      let at : o ≡ ending_at m.ask.most (counted_answer answers (told_answer stepped)) left (suc m.steps) budget = is ∙ ap (λ (n : ℕ). ending_at m.ask.most (counted_answer answers (told_answer stepped)) left n budget) one in
      subst (λ (x : Option Ending). MatchOption x (GoesOnNow budget m.ask.most (suc m.steps) (next.said ++ next.says ∷ []) next.after) (λ e. EndsNow budget m.ask.most (suc m.steps) (next.said ++ next.says ∷ []) next.after e)) (sym at)
      (ends_by budget m.ask.most (suc m.steps) (next.said ++ next.says ∷ []) next.after left left_is (counted_answer answers (told_answer stepped)) count)

  pub step_event : (o : Option Ending) → o ≡ ending_at m.ask.most (counted_answer answers (told_answer stepped)) left (m.steps + 1) budget → IsStepEvent names m.rules m.ask m.kept budget m.steps (found_event names m answers stepped o)
  unfolding next
  step_event o e = record {
    said = next.said;
    state = next.state;
    run = next.run;
    goes_on = subst (λ (l : List Says). GoesOnNow budget m.ask.most m.steps l next.state) said_same (subst (λ (s : List Alternative). GoesOnNow budget m.ask.most m.steps a.said s) state_same a.goes_on);
    says = next.says;
    after = next.after;
    step = next.step;
    stepped = stepped;
    tells = next.tells;
    line = end_text o (suc m.steps);
    closes = closes_by budget m.ask.most (suc m.steps) (next.said ++ next.says ∷ []) next.after o (ends o e);
    text_is = λ i. told_line names m.ask.vars ((a.count ∙ ap answer_count said_same) i) stepped ++ end_text o (one i);
    answer_is = refl;
  }

  pub asks_on : (o : Option Ending) → o ≡ ending_at m.ask.most (counted_answer answers (told_answer stepped)) left (m.steps + 1) budget → is_some o ≡ false → IsAskGoing budget (stepped_on m) (counted_answer answers (told_answer stepped))
  unfolding next
  asks_on o e none =
      let goes = goes_by budget m.ask.most (suc m.steps) (next.said ++ next.says ∷ []) next.after o (ends o e) none in
      let below = below_budget budget m.ask.most (suc m.steps) (next.said ++ next.says ∷ []) next.after goes (omega (arith, a.within)) in
      record {
        works = a.works;
        said = next.said ++ next.says ∷ [];
        state = next.after;
        run = subst (λ (n : ℕ). IsAskRun m.rules m.ask m.kept n (next.said ++ next.says ∷ []) next.after) (sym one) run_on;
        count = count;
        goes_on = subst (λ (n : ℕ). GoesOnNow budget m.ask.most n (next.said ++ next.says ∷ []) next.after) (sym one) goes;
        within = omega (arith, below);
      }

-- An ask at its beginning: an alternative is left.
start_left : (first : Alternative) → (true ≡ true) ↔ (first ∷ [] ≢ [])
start_left first = (λ _ e. cc e, λ _. refl)

pub ends_at_once : (ask : Ask) (kept : List (List Node)) (budget : ℕ) → MatchOption (ending_at ask.most 0 true 0 budget) (GoesOnNow budget ask.most 0 [] (ask_start ask kept ∷ [])) (λ e. EndsNow budget ask.most 0 [] (ask_start ask kept ∷ []) e)
ends_at_once ask kept budget = ends_by budget ask.most 0 [] (ask_start ask kept ∷ []) true (start_left (ask_start ask kept)) 0 refl

pub at_once_end : (ask : Ask) (kept : List (List Node)) (budget : ℕ) (e : Ending) → ending_at ask.most 0 true 0 budget ≡ Some e → EndsNow budget ask.most 0 [] (ask_start ask kept ∷ []) e
at_once_end ask kept budget e is = subst (λ (o : Option Ending). MatchOption o (GoesOnNow budget ask.most 0 [] (ask_start ask kept ∷ [])) (λ e. EndsNow budget ask.most 0 [] (ask_start ask kept ∷ []) e)) is (ends_at_once ask kept budget)

pub started_asks : (P : RuleList) (ask : Ask) (kept : List (List Node)) (budget : ℕ) → ending_at ask.most 0 true 0 budget ≡ None → IsAskGoing budget (started_machine P ask kept) 0
started_asks P ask kept budget is =
    let on : GoesOnNow budget ask.most 0 [] (ask_start ask kept ∷ []) = subst (λ (o : Option Ending). MatchOption o (GoesOnNow budget ask.most 0 [] (ask_start ask kept ∷ [])) (λ e. EndsNow budget ask.most 0 [] (ask_start ask kept ∷ []) e)) is (ends_at_once ask kept budget) in
    record { works = refl; said = []; state = ask_start ask kept ∷ []; run = begins; count = refl; goes_on = on; within = below_budget budget ask.most 0 [] (ask_start ask kept ∷ []) on (omega arith) }
