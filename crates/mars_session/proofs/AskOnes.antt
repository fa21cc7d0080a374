-- The event of an ask after so many steps is determined.
use Rattle.std.proofs.Common.{◌≡◌, ℕ, suc, ◌+◌, List, [], ◌∷◌, ◌++◌, length, Bool, true, false, Option, Some, None, refl, ap, sym, ◌∙◌, subst, inl, inr}
use Rattle.mars_tree.specs.declared.label.NameId.{NameId}
use Rattle.mars_tree.specs.Graph.{Node}
use Rattle.mars_canon.specs.Canon.{Rooted}
use Rattle.mars_term.specs.declared.clause.Ask.{Ask}
use Rattle.mars_rules.specs.RuleLists.{RuleList}
use Rattle.mars_answer.specs.declared.answers.Answer.{Answer}
use Rattle.mars_machine.specs.declared.ending.Ending.{Ending}
use Rattle.mars_machine.specs.declared.stepped.Stepped.{Stepped}
use Rattle.mars_machine.specs.declared.stepped.Stepped.TheVariants.{Went, Said, SaidText, Answered, Ended}
use Rattle.mars_machine.specs.Subjects.{Subject}
use Rattle.mars_machine.specs.Equations.{Equations}
use Rattle.mars_machine.specs.Alternatives.{Alternative, ask_start}
use Rattle.mars_machine.specs.Steps.{Says, tree, answer, IsAskRun}
use Rattle.mars_machine.specs.Steps.IsDerivation.{begins, goes}
use Rattle.mars_machine.specs.Asks.{answer_count, EndsNow}
use Rattle.mars_machine.specs.TermAnswers.{IsTermAnswer, IsAnswerOf, answer_roots}
use Rattle.mars_machine.specs.Machines.{TellsSaying}
use Rattle.mars_machine.proofs.Runs.{derivation_once, one_way}
use Rattle.mars_machine.proofs.Telling.{answer_once, open_once}
use Rattle.mars_session.specs.Lines.{told_line, told_answer, answer_line, ending_line}
use Rattle.mars_session.specs.AskEvents.{AskEvent, ClosesBy, EndsAtOnce, IsStepEvent, IsAskEvent}

-- what is told of a saying has one line, and one answer
pub record ToldAlike (names : List (List ℕ)) (vars : List NameId) (a b : Stepped) : Type 0 where
  pub line : (count : ℕ) → told_line names vars count a ≡ told_line names vars count b
  pub answer : told_answer a ≡ told_answer b

said_alike : (names : List (List ℕ)) (vars : List NameId) (e f : Equations) (s t : Subject) (c d : Rooted) → tree e s ≡ tree f t → IsTermAnswer e (s ∷ []) c → IsTermAnswer f (t ∷ []) d → ToldAlike names vars (Said c) (Said d)
said_alike names vars e f s t c d same a b =
    let one_e : e ≡ f = cc same in
    let one_s : s ≡ t = cc same in
    let b' : IsTermAnswer e (s ∷ []) d = subst (λ (x : Equations). IsTermAnswer x (s ∷ []) d) (sym one_e) (subst (λ (x : Subject). IsTermAnswer f (x ∷ []) d) (sym one_s) b) in
    let one : c ≡ d = answer_once e (s ∷ []) c d a b' in
    record { line = λ count. ap (λ (x : Rooted). told_line names vars count (Said x)) one; answer = refl }

answered_alike : (names : List (List ℕ)) (ask : Ask) (x y : Alternative) (a b : Answer) → answer x ≡ answer y → IsAnswerOf ask x a → IsAnswerOf ask y b → ToldAlike names ask.vars (Answered a) (Answered b)
answered_alike names ask x y a b same h k' =
    let one : x ≡ y = cc same in
    let k : IsAnswerOf ask x b = subst (λ (z : Alternative). IsAnswerOf ask z b) (sym one) k' in
    let differ = open_once x.equations x.differ h.differ k.differ h.open_are k.open_are in
    let graph : IsTermAnswer x.equations (answer_roots (length ask.vars) h.differ x.frozen) b.canon = subst (λ (l : List (Subject × Subject)). IsTermAnswer x.equations (answer_roots (length ask.vars) l x.frozen) b.canon) (sym differ) k.graph in
    let canon : a.canon ≡ b.canon = answer_once x.equations (answer_roots (length ask.vars) h.differ x.frozen) a.canon b.canon h.graph graph in
    let difs : a.difs ≡ b.difs = h.difs ∙ ap (λ (l : List (Subject × Subject)). length l) differ ∙ sym k.difs in
    let frozen : a.frozen ≡ b.frozen = h.frozen ∙ sym k.frozen in
    record { line = λ count i. answer_line names (count + 1) ask.vars (canon i) (difs i) (frozen i); answer = ap (λ (c : Rooted). Some c) canon }

pub told_alike : (names : List (List ℕ)) (ask : Ask) (a b : Stepped) (says : Says) → TellsSaying ask a says → TellsSaying ask b says → ToldAlike names ask.vars a b
told_alike names ask Ended b says h k = absurd h
told_alike names ask Went Ended says h k = absurd k
told_alike names ask (Said c) Ended says h k = absurd k
told_alike names ask (SaidText s) Ended says h k = absurd k
told_alike names ask (Answered c) Ended says h k = absurd k
told_alike names ask Went Went says h k = record { line = λ count. refl; answer = refl }
told_alike names ask Went (Said d) says h k = absurd (cc (h, k.2))
told_alike names ask Went (SaidText t) says h k = absurd (cc (h, k))
told_alike names ask Went (Answered d) says h k = absurd (cc (h, k.1))
told_alike names ask (Said c) Went says h k = absurd (cc (h.2, k))
told_alike names ask (Said c) (Said d) says h k = said_alike names ask.vars h.0 k.0 h.1 k.1 c d (sym h.2 ∙ k.2) h.3 k.3
told_alike names ask (Said c) (SaidText t) says h k = absurd (cc (h.2, k))
told_alike names ask (Said c) (Answered d) says h k = absurd (cc (h.2, k.1))
told_alike names ask (SaidText s) Went says h k = absurd (cc (h, k))
told_alike names ask (SaidText s) (Said d) says h k = absurd (cc (h, k.2))
told_alike names ask (SaidText s) (SaidText t) says h k = let same : s ≡ t = cc (h, k) in record { line = λ count. ap (λ (x : NameId). told_line names ask.vars count (SaidText x)) same; answer = refl }
told_alike names ask (SaidText s) (Answered d) says h k = absurd (cc (h, k.1))
told_alike names ask (Answered c) Went says h k = absurd (cc (h.1, k))
told_alike names ask (Answered c) (Said d) says h k = absurd (cc (h.1, k.2))
told_alike names ask (Answered c) (SaidText t) says h k = absurd (cc (h.1, k))
told_alike names ask (Answered c) (Answered d) says h k = answered_alike names ask h.0 k.0 c d (sym h.1 ∙ k.1) h.2 k.2

closes_one : (budget : ℕ) (most : Option ℕ) (steps : ℕ) (said : List Says) (state : List Alternative) (a b : List ℕ) (x y : Bool)
    → ClosesBy budget most steps said state a x → ClosesBy budget most steps said state b y → (a ≡ b) × (x ≡ y)
closes_one budget most steps said state a b true true h k = (h.2 ∙ ap (λ (e : Ending). ending_line e steps) (one_way budget most steps said state h.0 k.0 h.1 k.1) ∙ sym k.2, refl)
closes_one budget most steps said state a b true false h k = absurd (k.0 h.0 h.1)
closes_one budget most steps said state a b false true h k = absurd (h.0 k.0 k.1)
closes_one budget most steps said state a b false false h k = (h.1 ∙ sym k.1, refl)

last_same : {A : Type 0} (xs ys : List A) (x y : A) → xs ≡ ys → xs ++ x ∷ [] ≡ ys ++ y ∷ [] → x ≡ y
last_same [] [] x y same e = cc e
last_same [] (v ∷ ys) x y same e = absurd (cc same)
last_same (u ∷ xs) [] x y same e = absurd (cc same)
last_same (u ∷ xs) (v ∷ ys) x y same e = last_same xs ys x y (cc same) (cc e)

module _ (names : List (List ℕ)) (P : RuleList) (ask : Ask) (kept : List (List Node)) (budget steps : ℕ) where
  step_once : (a b : AskEvent) → IsStepEvent names P ask kept budget steps a → IsStepEvent names P ask kept budget steps b → a ≡ b
  step_once a b h k =
      let before = derivation_once P ask kept steps h.said k.said h.state k.state h.run k.run in
      let here : IsAskRun P ask kept (suc steps) (h.said ++ h.says ∷ []) h.after = goes h.run h.step in
      let there : IsAskRun P ask kept (suc steps) (k.said ++ k.says ∷ []) k.after = goes k.run k.step in
      let now = derivation_once P ask kept (suc steps) (h.said ++ h.says ∷ []) (k.said ++ k.says ∷ []) h.after k.after here there in
      let says : h.says ≡ k.says = last_same h.said k.said h.says k.says before.0 now.0 in
      let tells : TellsSaying ask k.stepped h.says = subst (λ (s : Says). TellsSaying ask k.stepped s) (sym says) k.tells in
      let told = told_alike names ask h.stepped k.stepped h.says h.tells tells in
      let closes : ClosesBy budget ask.most (suc steps) (h.said ++ h.says ∷ []) h.after k.line b.ends =
      subst (λ (l : List Says). ClosesBy budget ask.most (suc steps) l h.after k.line b.ends) (sym now.0)
      (subst (λ (s : List Alternative). ClosesBy budget ask.most (suc steps) (k.said ++ k.says ∷ []) s k.line b.ends) (sym now.1) k.closes) in
      let one = closes_one budget ask.most (suc steps) (h.said ++ h.says ∷ []) h.after h.line k.line a.ends b.ends h.closes closes in
      let text : a.text ≡ b.text = h.text_is ∙ (λ i. told.line (answer_count (before.0 i)) i ++ one.0 i) ∙ sym k.text_is in
      let answer : a.answer ≡ b.answer = h.answer_is ∙ told.answer ∙ sym k.answer_is in
      λ i. record { text = text i; answer = answer i; ends = one.1 i }

  at_once_or_step : (a b : AskEvent) → EndsAtOnce ask kept budget steps a → IsStepEvent names P ask kept budget steps b → ⊥
  at_once_or_step a b h k =
      let run : IsAskRun P ask kept 0 k.said k.state = subst (λ (n : ℕ). IsAskRun P ask kept n k.said k.state) h.none_done k.run in
      let same = derivation_once P ask kept 0 [] k.said (ask_start ask kept ∷ []) k.state begins run in
      let ends : EndsNow budget ask.most 0 k.said k.state h.ending = subst (λ (l : List Says). EndsNow budget ask.most 0 l k.state h.ending) same.0 (subst (λ (s : List Alternative). EndsNow budget ask.most 0 [] s h.ending) same.1 h.ends) in
      k.goes_on h.ending (subst (λ (n : ℕ). EndsNow budget ask.most n k.said k.state h.ending) (sym h.none_done) ends)

  pub event_once : (a b : AskEvent) → IsAskEvent names P ask kept budget steps a → IsAskEvent names P ask kept budget steps b → a ≡ b
  unfolding IsAskEvent
  event_once a b (inl h) (inl k) =
      h.event_is ∙ ap (λ (e : Ending). record { text = ending_line e 0; answer = None; ends = true }) (one_way budget ask.most 0 [] (ask_start ask kept ∷ []) h.ending k.ending h.ends k.ends) ∙ sym k.event_is
  event_once a b (inl h) (inr k) = absurd (at_once_or_step a b h k)
  event_once a b (inr h) (inl k) = absurd (at_once_or_step b a k h)
  event_once a b (inr h) (inr k) = step_once a b h k
