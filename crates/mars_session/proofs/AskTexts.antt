-- The events of an ask write its text.
use Rattle.std.proofs.Common.{◌≡◌, ◌≢◌, ℕ, zero, suc, ◌+◌, ◌<◌, ◌≤◌, List, [], ◌∷◌, ◌++◌, Bool, true, false, Option, Some, refl, ap, sym, ◌∙◌, subst, arith, append-nil, append_assoc, inl, inr}
use Rattle.std.specs.Prelude.{◌⊎◌, slice_get}
use Rattle.std.proofs.lemmas.Bool.{cases_lt}
use Rattle.std.proofs.lemmas.Option.{slice_get_within}
use Rattle.mars_tree.specs.Graph.{Node}
use Rattle.mars_term.specs.declared.clause.Ask.{Ask}
use Rattle.mars_script.specs.declared.script.Command.{Command}
use Rattle.mars_script.specs.declared.script.Command.TheVariants as command
use Rattle.mars_machine.specs.declared.ending.Ending.TheVariants.{End, Enough, Stopped}
use Rattle.mars_machine.specs.declared.stepped.Stepped.{Stepped}
use Rattle.mars_machine.specs.Alternatives.{Alternative, ask_start}
use Rattle.mars_machine.specs.Steps.{Says, nothing, tree, text, answer, IsAskRun}
use Rattle.mars_machine.specs.Steps.IsDerivation.{begins, goes}
use Rattle.mars_machine.specs.Asks.{answer_count, HasEnough, EndsNow}
use Rattle.mars_machine.specs.Machines.{TellsSaying}
use Rattle.mars_machine.proofs.Runs.{derivation_once}
use Rattle.mars_session.specs.Lines.{told_line, ending_line}
use Rattle.mars_session.specs.SessionPoints.{SessionPart, SessionPoint, session_start, named_trees}
use Rattle.mars_session.specs.CommandActs.{CommandAct, Writes, Uses, Asks, ActsAt, ask_act, use_line}
use Rattle.mars_session.specs.AskEvents.{AskEvent, GoesOnNow, ClosesBy, IsAskEvent, AreSayingLines, IsAskText}
use Rattle.mars_session.specs.SessionEvents.{stepped_by, DoesAct, IsEvent, AreEvents}
use Rattle.mars_session.specs.SessionAlone.{BeginsWith}
use Rattle.mars_session.specs.SessionLaws.{TextsGrow, BeginsAsk, AskWritesItsText, Advances, command_more, step_more, EventsAdvance}

-- where an ask isn't at its end, a step is left of its budget
some_left : (state : List Alternative) → (state ≡ []) ⊎ (state ≢ [])
some_left [] = inl refl
some_left (first ∷ rest) = inr (λ e. cc e)

pub below_budget : (budget : ℕ) (most : Option ℕ) (steps : ℕ) (said : List Says) (state : List Alternative) → GoesOnNow budget most steps said state → steps ≤ budget → steps < budget
below_budget budget most steps said state on within = elim (cases_lt steps budget) [
  | inl lt ↦ lt
  | inr le ↦
      let same : steps ≡ budget = omega (arith, le, within) in
      let never : HasEnough most said → ⊥ = λ e. on Enough e in
      absurd (elim (some_left state) [ inl none ↦ on End (none, never) | inr some ↦ on Stopped (same, some, never) ])
]

-- one saying more
counted_with : (says : Says) (said : List Says) → answer_count (says ∷ said) ≡ answer_count (says ∷ []) + answer_count said
counted_with nothing said = omega arith
counted_with (tree e subject) said = omega arith
counted_with (text string) said = omega arith
counted_with (answer alternative) said = omega arith

lines_on : (names : List (List ℕ)) (ask : Ask) (count : ℕ) (said : List Says) (says : Says) (lines : List ℕ) (stepped : Stepped) → AreSayingLines names ask count said lines → TellsSaying ask stepped says
    → AreSayingLines names ask count (said ++ says ∷ []) (lines ++ told_line names ask.vars (count + answer_count said) stepped)
lines_on names ask count [] says lines stepped are tells =
    let number : count + 0 ≡ count = omega arith in
    (stepped, [], tells, (λ i. are i ++ told_line names ask.vars (number i) stepped) ∙ sym (append-nil (told_line names ask.vars count stepped)), refl)
lines_on names ask count (first ∷ said) says lines stepped are tells =
    let rest = lines_on names ask (count + answer_count (first ∷ [])) said says are.1 stepped are.4 tells in
    let number : (count + answer_count (first ∷ [])) + answer_count said ≡ count + answer_count (first ∷ said) = omega (arith, counted_with first said) in
    let more : List ℕ = told_line names ask.vars (count + answer_count (first ∷ said)) stepped in (
      are.0,
      are.1 ++ more,
      are.2,
      ap (λ (l : List ℕ). l ++ more) are.3 ∙ append_assoc (told_line names ask.vars count are.0) are.1 more,
      subst (λ (k : ℕ). AreSayingLines names ask (count + answer_count (first ∷ [])) (said ++ says ∷ []) (are.1 ++ told_line names ask.vars k stepped)) number rest,
    )

-- the line of what the next step says
abbrev told_now : SessionPart → Ask → List Says → Stepped → List ℕ
told_now part ask said stepped = told_line part.names ask.vars (answer_count said) stepped

-- so far in an ask that began at `p`
record Midway (part : SessionPart) (ask : Ask) (kept : List (List Node)) (p r : SessionPoint) : Type 0 where
  pub said : List Says
  pub state : List Alternative
  pub run : IsAskRun part.rules ask kept r.steps said state
  pub lines : AreSayingLines part.names ask 0 said r.present
  pub going : (fewer : ℕ) (earlier : List Says) (before : List Alternative) → fewer < r.steps → IsAskRun part.rules ask kept fewer earlier before → GoesOnNow part.budget ask.most fewer earlier before
  pub within : r.steps ≤ part.budget
  pub done : r.done ≡ p.done
  pub names : r.names ≡ p.names
  pub before : r.before ≡ p.before

-- what became of an event
data Comes (part : SessionPart) (ask : Ask) (kept : List (List Node)) (p q : SessionPoint) : Type 0 where
  on : Midway part ask kept p q → Comes part ask kept p q
  at_last : q.done ≡ suc p.done → (t : List ℕ) → IsAskText part.names part.rules ask kept part.budget t → q.before ≡ p.before ++ t → Comes part ask kept p q

module _ (part : SessionPart) (ask : Ask) (kept : List (List Node)) (p r : SessionPoint) (m : Midway part ask kept p r) where
  by_end : (b : Bool) (event : AskEvent) (q : SessionPoint) → b ≡ event.ends → IsAskEvent part.names part.rules ask kept part.budget r.steps event → q ≡ stepped_by b ask.vars event r → Comes part ask kept p q
  unfolding IsAskEvent
  by_end b event q is (inl h) to =
      let ends : b ≡ true = is ∙ ap (λ (e : AskEvent). e.ends) h.event_is in
      let to' : q ≡ stepped_by true ask.vars event r = to ∙ ap (λ (b : Bool). stepped_by b ask.vars event r) ends in
      let run : IsAskRun part.rules ask kept 0 m.said m.state = subst (λ (n : ℕ). IsAskRun part.rules ask kept n m.said m.state) h.none_done m.run in
      let same = derivation_once part.rules ask kept 0 [] m.said (ask_start ask kept ∷ []) m.state begins run in
      let none : r.present ≡ [] = subst (λ (l : List Says). AreSayingLines part.names ask 0 l r.present) (sym same.0) m.lines in
      at_last (ap (λ (x : SessionPoint). x.done) to' ∙ ap suc m.done) (ending_line h.ending 0)
      (record {
        steps = 0;
        said = [];
        ending = h.ending;
        lines = [];
        lines_are = refl;
        text_is = refl;
        end = record { state = ask_start ask kept ∷ []; run = begins; within = omega arith; ends = h.ends; least = λ fewer earlier before way few. absurd (omega (arith, few)) };
      })
      (ap (λ (x : SessionPoint). x.before) to' ∙ (λ i. m.before i ++ (none i ++ ap (λ (e : AskEvent). e.text) h.event_is i)))
  by_end b event q is (inr h) to = closing b (subst (λ (b : Bool). ClosesBy part.budget ask.most (suc r.steps) (h.said ++ h.says ∷ []) h.after h.line b) (sym is) h.closes) to
    where
      lines : AreSayingLines part.names ask 0 h.said r.present
      lines =
          let same = derivation_once part.rules ask kept r.steps h.said m.said h.state m.state h.run m.run in
          subst (λ (l : List Says). AreSayingLines part.names ask 0 l r.present) (sym same.0) m.lines

      more : AreSayingLines part.names ask 0 (h.said ++ h.says ∷ []) (r.present ++ (told_now part ask h.said h.stepped))
      more =
          let number : 0 + answer_count h.said ≡ answer_count h.said = omega arith in
          subst (λ (k : ℕ). AreSayingLines part.names ask 0 (h.said ++ h.says ∷ []) (r.present ++ told_line part.names ask.vars k h.stepped)) number (lines_on part.names ask 0 h.said h.says r.present h.stepped lines h.tells)

      below : r.steps < part.budget
      below = below_budget part.budget ask.most r.steps h.said h.state h.goes_on m.within

      here : (fewer : ℕ) (earlier : List Says) (before : List Alternative) → fewer ≡ r.steps → IsAskRun part.rules ask kept fewer earlier before → GoesOnNow part.budget ask.most fewer earlier before
      here fewer earlier before same run ending ends =
          let run' : IsAskRun part.rules ask kept r.steps earlier before = subst (λ (n : ℕ). IsAskRun part.rules ask kept n earlier before) same run in
          let ends' : EndsNow part.budget ask.most r.steps earlier before ending = subst (λ (n : ℕ). EndsNow part.budget ask.most n earlier before ending) same ends in
          let one = derivation_once part.rules ask kept r.steps earlier h.said before h.state run' h.run in
          h.goes_on ending (subst (λ (l : List Says). EndsNow part.budget ask.most r.steps l h.state ending) one.0 (subst (λ (s : List Alternative). EndsNow part.budget ask.most r.steps earlier s ending) one.1 ends'))

      going : (fewer : ℕ) (earlier : List Says) (before : List Alternative) → fewer < suc r.steps → IsAskRun part.rules ask kept fewer earlier before → GoesOnNow part.budget ask.most fewer earlier before
      going fewer earlier before lt run = elim (cases_lt fewer r.steps) [
        | inl few ↦ m.going fewer earlier before few run
        | inr le ↦ here fewer earlier before (omega (arith, lt, le)) run
      ]

      text_of : (line : List ℕ) → h.line ≡ line → event.text ≡ (told_now part ask h.said h.stepped) ++ line
      text_of line e = h.text_is ∙ ap (λ (l : List ℕ). told_line part.names ask.vars (answer_count h.said) h.stepped ++ l) e

      closing : (b : Bool) → ClosesBy part.budget ask.most (suc r.steps) (h.said ++ h.says ∷ []) h.after h.line b → q ≡ stepped_by b ask.vars event r → Comes part ask kept p q
      closing true c to =
          at_last (ap (λ (x : SessionPoint). x.done) to ∙ ap suc m.done) ((r.present ++ (told_now part ask h.said h.stepped)) ++ ending_line c.0 (suc r.steps))
          (record {
            steps = suc r.steps;
            said = h.said ++ h.says ∷ [];
            ending = c.0;
            lines = r.present ++ (told_now part ask h.said h.stepped);
            lines_are = more;
            text_is = refl;
            end = record { state = h.after; run = goes h.run h.step; within = omega (arith, below); ends = c.1; least = λ fewer earlier before way few run. going fewer earlier before few run way };
          })
          (ap (λ (x : SessionPoint). x.before) to ∙ (λ i. m.before i ++ (r.present ++ text_of (ending_line c.0 (suc r.steps)) c.2 i)) ∙ ap (λ (l : List ℕ). p.before ++ l) (sym (append_assoc r.present (told_now part ask h.said h.stepped) (ending_line c.0 (suc r.steps)))))
      closing false c to =
          on (subst (λ (x : SessionPoint). Midway part ask kept p x) (sym to) (record {
            said = h.said ++ h.says ∷ [];
            state = h.after;
            run = goes h.run h.step;
            lines = subst (λ (l : List ℕ). AreSayingLines part.names ask 0 (h.said ++ h.says ∷ []) (r.present ++ l)) (sym (text_of [] c.1 ∙ append-nil (told_now part ask h.said h.stepped))) more;
            going = going;
            within = omega (arith, below);
            done = m.done;
            names = m.names;
            before = m.before;
          }))

module _ (part : SessionPart) (ask : Ask) (kept : List (List Node)) (p : SessionPoint) (b : BeginsAsk part p ask kept) where
  asked : (act : CommandAct) (r q : SessionPoint) → Midway part ask kept p r → act ≡ Asks ask kept → DoesAct part act r q → Comes part ask kept p q
  asked act r q m is d' =
      let d : DoesAct part (Asks ask kept) r q = subst (λ (t : CommandAct). DoesAct part t r q) is d' in
      by_end part ask kept p r m d.0.ends d.0 q refl d.1 d.2

  act_is : (r : SessionPoint) (act : CommandAct) → r.names ≡ p.names → ActsAt r (command.Ask ask) act → act ≡ Asks ask kept
  unfolding ActsAt
  act_is r act names acts = acts ∙ ap (λ (l : _). ask_act ask (named_trees l ask.kept)) names ∙ ap (ask_act ask) b.trees

  event_comes : (r q : SessionPoint) → Midway part ask kept p r → IsEvent part r q → Comes part ask kept p q
  event_comes r q m n =
      let at_r : slice_get part.commands r.done ≡ Some (command.Ask ask) = ap (λ (i : ℕ). slice_get part.commands i) m.done ∙ b.is_next in
      let one : n.command ≡ command.Ask ask = cc (n.is_next, at_r) in
      asked n.act r q m (act_is r n.act m.names (subst (λ (c : Command). ActsAt r c n.act) one n.acts)) n.does

  begins_midway : Midway part ask kept p p
  begins_midway = record {
    said = [];
    state = ask_start ask kept ∷ [];
    run = subst (λ (n : ℕ). IsAskRun part.rules ask kept n [] (ask_start ask kept ∷ [])) (sym b.none_done) begins;
    lines = b.none_written;
    going = λ fewer earlier before few run. absurd (omega (arith, few, b.none_done));
    within = omega (arith, b.none_done);
    done = refl;
    names = refl;
    before = refl;
  }

-- how many commands are done only rises
stepped_done : (ends : Bool) (vars : _) (event : AskEvent) (p : SessionPoint) → p.done ≤ (stepped_by ends vars event p).done
stepped_done true vars event p = omega arith
stepped_done false vars event p = omega arith

does_done : (part : SessionPart) (act : CommandAct) (p q : SessionPoint) → DoesAct part act p q → p.done ≤ q.done
does_done part (Writes line) p q d = subst (λ (x : SessionPoint). p.done ≤ x.done) (sym d) (omega arith)
does_done part (Uses wish) p q d = subst (λ (x : SessionPoint). p.done ≤ x.done) (sym d.2) (omega arith)
does_done part (Asks ask kept) p q d = subst (λ (x : SessionPoint). p.done ≤ x.done) (sym d.2) (stepped_done d.0.ends ask.vars d.0 p)

pub after_done : (part : SessionPart) (n : ℕ) (p q : SessionPoint) → AreEvents part n p q → p.done ≤ q.done
after_done part zero p q a = subst (λ (x : SessionPoint). p.done ≤ x.done) (sym a) (omega arith)
after_done part (suc n) p q a = let first = does_done part a.1.act p a.0 a.1.does in let rest = after_done part n a.0 q a.2 in omega (arith, first, rest)

AskResult : SessionPart → Ask → List (List Node) → SessionPoint → SessionPoint → Type 0
AskResult part ask kept p q = (text : List ℕ) × IsAskText part.names part.rules ask kept part.budget text × (q.before ≡ p.before ++ text)

ask_through : (part : SessionPart) (ask : Ask) (kept : List (List Node)) (p : SessionPoint) → BeginsAsk part p ask kept → (n : ℕ) (r m q : SessionPoint) → Midway part ask kept p r → AreEvents part n r m → m.done ≡ p.done → IsEvent part m q → q.done ≡ suc p.done → AskResult part ask kept p q
unfolding AskResult
ask_through part ask kept p b zero r m q mid a at n done = result (event_comes part ask kept p b r q mid (subst (λ (x : SessionPoint). IsEvent part x q) a n))
  where
    result : Comes part ask kept p q → AskResult part ask kept p q
    result (on mid') = absurd (omega (arith, mid'.done, done))
    result (at_last is t written before) = (t, written, before)
ask_through part ask kept p b (suc k) r m q mid a at n done = further (λ mid'. ask_through part ask kept p b k a.0 m q mid' a.2 at n done) (event_comes part ask kept p b r a.0 mid a.1)
  where
    further : (Midway part ask kept p a.0 → AskResult part ask kept p q) → Comes part ask kept p a.0 → AskResult part ask kept p q
    further again (on mid') = again mid'
    further again (at_last is t written before) = let rises = after_done part k a.0 m a.2 in absurd (omega (arith, rises, is, at))

pub ask_writes_its_text : AskWritesItsText
unfolding AskResult
ask_writes_its_text part n p m q ask kept b a at next done = ask_through part ask kept p b n p m q (begins_midway part ask kept p b) a at next done

-- The text only grows.
stepped_grows : (ends : Bool) (vars : _) (event : AskEvent) (p : SessionPoint) → BeginsWith (p.before ++ p.present) ((stepped_by ends vars event p).before ++ (stepped_by ends vars event p).present)
stepped_grows true vars event p = (event.text, append-nil (p.before ++ (p.present ++ event.text)) ∙ sym (append_assoc p.before p.present event.text))
stepped_grows false vars event p = (event.text, sym (append_assoc p.before p.present event.text))

grows_by : (part : SessionPart) (act : CommandAct) (p q : SessionPoint) → DoesAct part act p q → BeginsWith (p.before ++ p.present) (q.before ++ q.present)
grows_by part (Writes line) p q d = (line, (λ i. (d i).before ++ (d i).present) ∙ append-nil (p.before ++ (p.present ++ line)) ∙ sym (append_assoc p.before p.present line))
grows_by part (Uses wish) p q d =
    let line : List ℕ = use_line part.names wish d.0 in
    (line, (λ i. (d.2 i).before ++ (d.2 i).present) ∙ append-nil (p.before ++ (p.present ++ line)) ∙ sym (append_assoc p.before p.present line))
grows_by part (Asks ask kept) p q d = subst (λ (x : SessionPoint). BeginsWith (p.before ++ p.present) (x.before ++ x.present)) (sym d.2) (stepped_grows d.0.ends ask.vars d.0 p)

pub texts_grow : TextsGrow
texts_grow part p q n = grows_by part n.act p q n.does

-- Each event brings a session nearer to its end.
within_step : (part : SessionPart) (ask : Ask) (kept : List (List Node)) (p : SessionPoint) (event : AskEvent) → IsAskEvent part.names part.rules ask kept part.budget p.steps event → event.ends ≡ false → p.steps ≤ part.budget → suc p.steps < part.budget
unfolding IsAskEvent
within_step part ask kept p event (inl h) none within = absurd (cc (none, ap (λ (e : AskEvent). e.ends) h.event_is))
within_step part ask kept p event (inr h) none within =
    let below = below_budget part.budget ask.most p.steps h.said h.state h.goes_on within in
    let closes : ClosesBy part.budget ask.most (suc p.steps) (h.said ++ h.says ∷ []) h.after h.line false = subst (λ (b : Bool). ClosesBy part.budget ask.most (suc p.steps) (h.said ++ h.says ∷ []) h.after h.line b) none h.closes in
    below_budget part.budget ask.most (suc p.steps) (h.said ++ h.says ∷ []) h.after closes.0 (omega (arith, below))

advances_by : (part : SessionPart) (act : CommandAct) (p q : SessionPoint) → DoesAct part act p q → p.steps ≤ part.budget → Advances part p q
advances_by part (Writes line) p q d within = command_more (ap (λ (x : SessionPoint). x.done) d) (ap (λ (x : SessionPoint). x.steps) d)
advances_by part (Uses wish) p q d within = command_more (ap (λ (x : SessionPoint). x.done) d.2) (ap (λ (x : SessionPoint). x.steps) d.2)
advances_by part (Asks ask kept) p q d within = by_end d.0.ends refl d.2
  where
    by_end : (b : Bool) → d.0.ends ≡ b → q ≡ stepped_by d.0.ends ask.vars d.0 p → Advances part p q
    by_end true is to = let to' : q ≡ stepped_by true ask.vars d.0 p = to ∙ ap (λ (b : Bool). stepped_by b ask.vars d.0 p) is in command_more (ap (λ (x : SessionPoint). x.done) to') (ap (λ (x : SessionPoint). x.steps) to')
    by_end false is to =
        let to' : q ≡ stepped_by false ask.vars d.0 p = to ∙ ap (λ (b : Bool). stepped_by b ask.vars d.0 p) is in
        let steps : q.steps ≡ suc p.steps = ap (λ (x : SessionPoint). x.steps) to' in
        step_more (ap (λ (x : SessionPoint). x.done) to') steps (let below = within_step part ask kept p d.0 d.1 is within in omega (arith, steps, below))

within_on : (part : SessionPart) (p q : SessionPoint) → Advances part p q → q.steps ≤ part.budget
within_on part p q (command_more done steps) = omega (arith, steps)
within_on part p q (step_more done steps below) = omega (arith, below)

within_after : (part : SessionPart) (n : ℕ) (p q : SessionPoint) → AreEvents part n p q → p.steps ≤ part.budget → q.steps ≤ part.budget
within_after part zero p q a within = subst (λ (x : SessionPoint). x.steps ≤ part.budget) (sym a) within
within_after part (suc n) p q a within = within_after part n a.0 q a.2 (within_on part p a.0 (advances_by part a.1.act p a.0 a.1.does within))

pub events_advance : EventsAdvance
events_advance part p q r n =
    (slice_get_within part.commands p.done n.command n.is_next, advances_by part n.act p q n.does (within_after part r.0 (session_start part) p r.1 (omega arith)))
