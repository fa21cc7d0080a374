-- An ask, step by step.
use Rattle.std.proofs.Common.{◌≡◌, ◌≢◌, ℕ, ◌+◌, ◌≤◌, List, [], ◌∷◌, ◌++◌, true, false, Option, Some, refl, sym, ap, ◌∙◌, subst, arith, inl, inr, add-one, zero-add}
use Rattle.std.proofs.lemmas.Bool.{cases_lt, false≢true}
use Rattle.mars_term.specs.declared.clause.Ask.{Ask}
use Rattle.mars_rules.specs.RuleLists.{RuleList}
use Rattle.mars_machine.specs.declared.ending.Ending.{Ending}
use Rattle.mars_machine.specs.declared.ending.Ending.TheVariants.{End, Enough, Stopped}
use Rattle.mars_machine.specs.declared.stepped.Stepped.{Stepped}
use Rattle.mars_machine.specs.declared.stepped.Stepped.TheVariants.{Went, Said, SaidText, Answered, Ended}
use Rattle.mars_machine.specs.Alternatives.{Alternative, ask_start}
use Rattle.mars_machine.specs.Steps.{Says, nothing, tree, text, answer, IsDerivationStep, IsAskRun}
use Rattle.mars_machine.specs.Steps.IsDerivation.{begins, goes}
use Rattle.mars_machine.specs.Asks.{answer_count, HasEnough, EndsNow}
use Rattle.mars_machine.specs.Machines.{SeenMachine, stepped_machine, TellsSaying, TellsNext, TellsLeft, IsMachineStep, AreTold, IsMachineAsk}
use Rattle.mars_machine.specs.Machines.AreTold.{none as told-none, silent as told-silent, told as told-told}
use Rattle.mars_machine.proofs.Runs.{derivation_once}
use Rattle.mars_run.specs.Asking.{at_steps, EndsHere, GoesOnHere, told_after, answers_after, IsAsking}

-- whether an alternative is left, of the state of any run of so many steps
module _ (seen : SeenMachine) (said : List Says) (state : List Alternative) (run : IsAskRun seen.rules seen.ask seen.kept seen.steps said state) where
  some-or-none : (s : List Alternative) → (s ≢ [] → ⊥) → s ≡ []
  some-or-none [] h = refl
  some-or-none (x ∷ xs) h = absurd (h (λ e. cc))

  pub none-is-left : TellsLeft seen false → state ≡ []
  none-is-left h =
      let same = (derivation_once seen.rules seen.ask seen.kept seen.steps said h.said state h.state run h.run).1 in
      same ∙ some-or-none h.state (λ some. false≢true (h.left_is.1 some))

  pub some-is-left : TellsLeft seen true → state ≢ []
  some-is-left h e =
      let same = (derivation_once seen.rules seen.ask seen.kept seen.steps said h.said state h.state run h.run).1 in
      h.left_is.0 refl (sym same ∙ e)

module _ (seen : SeenMachine) (budget : ℕ) (most : Option ℕ) (answers : ℕ) where
  enough-here : most ≡ Some answers → EndsHere seen budget most answers Enough
  enough-here e said state run count = e ∙ ap Some (sym count)

  not-enough : (most ≡ Some answers → ⊥) → (said : List Says) → answer_count said ≡ answers → HasEnough most said → ⊥
  not-enough n said count e = n (e ∙ ap Some count)

  pub ends-enough : most ≡ Some answers → EndsHere seen budget most answers Enough
  ends-enough = enough-here

  pub ends-empty : (most ≡ Some answers → ⊥) → TellsLeft seen false → EndsHere seen budget most answers End
  ends-empty n left said state run count = (none-is-left seen said state run left, not-enough n said count)

  pub ends-stopped : (most ≡ Some answers → ⊥) → TellsLeft seen true → seen.steps ≡ budget → EndsHere seen budget most answers Stopped
  ends-stopped n left e said state run count = (e, some-is-left seen said state run left, not-enough n said count)

  pub goes-on-here : (most ≡ Some answers → ⊥) → TellsLeft seen true → (seen.steps ≡ budget → ⊥) → GoesOnHere seen budget most answers
  goes-on-here n left e said state run count Enough h = not-enough n said count h
  goes-on-here n left e said state run count End h = some-is-left seen said state run left h.0
  goes-on-here n left e said state run count Stopped h = e h.0

-- what is said last
count-last : (said : List Says) (says : Says) → answer_count (said ++ says ∷ []) ≡ answer_count said + answer_count (says ∷ [])
count-last [] says = sym (zero-add (answer_count (says ∷ [])))
count-last (nothing ∷ said) says = count-last said says
count-last (tree e s ∷ said) says = count-last said says
count-last (text t ∷ said) says = count-last said says
count-last (answer a ∷ said) says = let h = count-last said says in omega arith

told-last : (ask : Ask) (said : List Says) (told : List Stepped) (says : Says) (stepped : Stepped) → says ≢ nothing → TellsSaying ask stepped says → AreTold ask said told
    → AreTold ask (said ++ says ∷ []) (told ++ stepped ∷ [])
told-last ask [] told says stepped n t told-none = told-told n t told-none
told-last ask (x ∷ said) told says stepped n t (told-silent h) = told-silent (told-last ask said told says stepped n t h)
told-last ask (x ∷ said) (y ∷ told) says stepped n t (told-told m u h) = told-told m u (told-last ask said told says stepped n t h)

silent-last : (ask : Ask) (said : List Says) (told : List Stepped) → AreTold ask said told → AreTold ask (said ++ nothing ∷ []) told
silent-last ask [] told told-none = told-silent told-none
silent-last ask (x ∷ said) told (told-silent h) = told-silent (silent-last ask said told h)
silent-last ask (x ∷ said) (y ∷ told) (told-told m u h) = told-told m u (silent-last ask said told h)

tree-says : (says : Says) (e : _) (s : _) → says ≡ tree e s → says ≢ nothing
tree-says says e s is q = cc

text-says : (says : Says) (t : _) → says ≡ text t → says ≢ nothing
text-says says t is q = cc

answer-says : (says : Says) (a : Alternative) → says ≡ answer a → says ≢ nothing
answer-says says a is q = cc

-- what a step says is told after what was said
told-next : (ask : Ask) (said : List Says) (told : List Stepped) (says : Says) (stepped : Stepped) → TellsSaying ask stepped says → AreTold ask said told
    → AreTold ask (said ++ says ∷ []) (told_after told stepped)
told-next ask said told says Went t h = subst (λ s. AreTold ask (said ++ s ∷ []) told) (sym t) (silent-last ask said told h)
told-next ask said told says (Said canon) t h = told-last ask said told says (Said canon) (tree-says says t.0 t.1 t.2) t h
told-next ask said told says (SaidText string) t h = told-last ask said told says (SaidText string) (text-says says string t) t h
told-next ask said told says (Answered a) t h = told-last ask said told says (Answered a) (answer-says says t.0 t.1) t h
told-next ask said told says Ended t h = absurd t

counted-next : (ask : Ask) (said : List Says) (says : Says) (stepped : Stepped) (answers : ℕ) → TellsSaying ask stepped says → answer_count said ≡ answers
    → answer_count (said ++ says ∷ []) ≡ answers_after answers stepped
counted-next ask said says Went answers t h = let k = count-last said says in let e = ap (λ s. answer_count (s ∷ [])) t in omega arith
counted-next ask said says (Said canon) answers t h = let k = count-last said says in let e = ap (λ s. answer_count (s ∷ [])) t.2 in omega arith
counted-next ask said says (SaidText string) answers t h = let k = count-last said says in let e = ap (λ s. answer_count (s ∷ [])) t in omega arith
counted-next ask said says (Answered a) answers t h = let k = count-last said says in let e = ap (λ s. answer_count (s ∷ [])) t.1 in omega arith
counted-next ask said says Ended answers t h = absurd t

few-next : (answers steps : ℕ) (stepped : Stepped) → answers ≤ steps → answers_after answers stepped ≤ steps + 1
few-next answers steps Went h = omega arith
few-next answers steps (Said canon) h = omega arith
few-next answers steps (SaidText string) h = omega arith
few-next answers steps (Answered a) h = omega arith
few-next answers steps Ended h = omega arith

has-first : (P : RuleList) (state after : List Alternative) (says : Says) → IsDerivationStep P state says after → state ≢ []
has-first P [] after says h e = elim h [ ]
has-first P (x ∷ xs) after says h e = cc

module _ (seen : SeenMachine) (budget : ℕ) (most : Option ℕ) (answers : ℕ) (told : List Stepped) (asking : IsAsking seen budget most answers told) (on : GoesOnHere seen budget most answers) where
  no-enough : HasEnough most asking.said → ⊥
  no-enough e = on asking.said asking.state asking.run asking.counted Enough e

  -- one step more
  told-more : (stepped : Stepped) → TellsNext seen stepped → IsAsking (at_steps seen (seen.steps + 1)) budget most (answers_after answers stepped) (told_after told stepped)
  told-more stepped t =
      let same = derivation_once seen.rules seen.ask seen.kept seen.steps asking.said t.said asking.state t.state asking.run t.run in
      let step : IsDerivationStep seen.rules asking.state t.says t.after = subst (λ s. IsDerivationStep seen.rules s t.says t.after) (sym same.1) t.step in
      let early : seen.steps ≡ budget → ⊥ = λ e. on asking.said asking.state asking.run asking.counted Stopped (e, has-first seen.rules asking.state t.after t.says step, no-enough) in
      record {
        said = asking.said ++ t.says ∷ [];
        state = t.after;
        run = subst (λ n. IsAskRun seen.rules seen.ask seen.kept n (asking.said ++ t.says ∷ []) t.after) (sym (add-one seen.steps)) (goes asking.run step);
        within = let w = asking.within in omega arith;
        counted = counted-next seen.ask asking.said t.says stepped answers t.tells asking.counted;
        few = few-next answers seen.steps stepped asking.few;
        told_are = told-next seen.ask asking.said told t.says stepped t.tells asking.told_are;
        least = λ fewer earlier before way less run ends. elim (cases_lt fewer seen.steps) [
          | inl before_now ↦ asking.least fewer earlier before way before_now run ends
          | inr late ↦
              let now : fewer ≡ seen.steps = omega arith in
              let here = subst (λ n. IsAskRun seen.rules seen.ask seen.kept n earlier before) now run in
              let one = derivation_once seen.rules seen.ask seen.kept seen.steps asking.said earlier asking.state before asking.run here in
              on earlier before here (ap answer_count (sym one.0) ∙ asking.counted) way (subst (λ n. EndsNow budget most n earlier before way) now ends)
        ];
      }

  -- that nothing is left is an end
  pub asking-next : (stepped : Stepped) → IsMachineStep seen stepped → IsAsking (stepped_machine seen stepped) budget most (answers_after answers stepped) (told_after told stepped)
  asking-next Went h = told-more Went h
  asking-next (Said canon) h = told-more (Said canon) h
  asking-next (SaidText string) h = told-more (SaidText string) h
  asking-next (Answered a) h = told-more (Answered a) h
  asking-next Ended h = absurd (on asking.said asking.state asking.run asking.counted End (none-is-left seen asking.said asking.state asking.run h, no-enough))

  pub steps-rise : (stepped : Stepped) → IsMachineStep seen stepped → (stepped_machine seen stepped).steps ≡ seen.steps + 1
  steps-rise Went h = refl
  steps-rise (Said canon) h = refl
  steps-rise (SaidText string) h = refl
  steps-rise (Answered a) h = refl
  steps-rise Ended h = absurd (on asking.said asking.state asking.run asking.counted End (none-is-left seen asking.said asking.state asking.run h, no-enough))

  -- nor that the budget is used up
  pub steps-below : seen.steps ≢ budget
  steps-below e =
      let first : asking.state ≡ [] → ⊥ = λ empty. on asking.said asking.state asking.run asking.counted End (empty, no-enough) in
      on asking.said asking.state asking.run asking.counted Stopped (e, first, no-enough)

-- nothing was asked yet
pub asking-starts : (seen : SeenMachine) (budget : ℕ) (most : Option ℕ) → seen.steps ≡ 0 → IsAsking seen budget most 0 []
asking-starts seen budget most e = record {
  said = [];
  state = ask_start seen.ask seen.kept ∷ [];
  run = subst (λ n. IsAskRun seen.rules seen.ask seen.kept n [] (ask_start seen.ask seen.kept ∷ [])) (sym e) begins;
  within = omega arith;
  counted = refl;
  few = omega arith;
  told_are = told-none;
  least = λ fewer earlier before way less run ends. absurd (omega arith);
}

-- where it ends, the ask is done
pub asking-ends : (first seen : SeenMachine) (budget : ℕ) (most : Option ℕ) (answers : ℕ) (told : List Stepped) (way : Ending) → seen ≡ at_steps first seen.steps → IsAsking seen budget most answers told
    → EndsHere seen budget most answers way → IsMachineAsk first budget most (record { said = told; ending = way; steps = seen.steps })
asking-ends first seen budget most answers told way same asking ends =
    let a = subst (λ s. IsAsking s budget most answers told) same asking in
    let e = subst (λ s. EndsHere s budget most answers way) same ends in
    record {
      said = a.said;
      end = record {
        state = a.state;
        run = a.run;
        within = a.within;
        ends = e a.said a.state a.run a.counted;
        least = a.least;
      };
      told_are = a.told_are;
    }

-- a step changes the count alone
pub stepped-same : (first seen : SeenMachine) (stepped : Stepped) → seen ≡ at_steps first seen.steps → stepped_machine seen stepped ≡ at_steps first (stepped_machine seen stepped).steps
stepped-same first seen Went same = ap (λ s. at_steps s (seen.steps + 1)) same
stepped-same first seen (Said canon) same = ap (λ s. at_steps s (seen.steps + 1)) same
stepped-same first seen (SaidText string) same = ap (λ s. at_steps s (seen.steps + 1)) same
stepped-same first seen (Answered a) same = ap (λ s. at_steps s (seen.steps + 1)) same
stepped-same first seen Ended same = same
