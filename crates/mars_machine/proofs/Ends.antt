-- Where an ask without a number of answers ends.
use Rattle.std.proofs.Common.{◌≡◌, ℕ, zero, suc, ◌<◌, ◌≤◌, List, [], ◌∷◌, None, refl, subst, arith, inl, inr}
use Rattle.std.proofs.lemmas.Bool.{cases_lt}
use Rattle.mars_tree.specs.Graph.{Node}
use Rattle.mars_term.specs.declared.clause.Ask.{Ask}
use Rattle.mars_rules.specs.RuleLists.{RuleList}
use Rattle.mars_machine.specs.declared.ending.Ending.{Ending}
use Rattle.mars_machine.specs.declared.ending.Ending.TheVariants.{End, Enough, Stopped}
use Rattle.mars_machine.specs.Alternatives.{Alternative, ask_start}
use Rattle.mars_machine.specs.Steps.{Says, IsDerivation, IsDerivationStep, IsAskRun}
use Rattle.mars_machine.specs.Steps.IsDerivation.{goes}
use Rattle.mars_machine.specs.Asks.{HasEnough, EndsNow, IsAskEnd}
use Rattle.mars_machine.proofs.Runs.{derivation_once}

-- a state of a run, from which a step was made
record IsEarlier (P : RuleList) (start : List Alternative) (fewer : ℕ) : Type 0 where
  said : List Says
  state : List Alternative
  run : IsDerivation P start fewer said state
  says : Says
  after : List Alternative
  step : IsDerivationStep P state says after

earlier : (P : RuleList) (start : List Alternative) (steps fewer : ℕ) (said : List Says) (state : List Alternative) → IsDerivation P start steps said state → fewer < steps → IsEarlier P start fewer
earlier P start zero fewer said state d few = absurd (omega arith)
earlier P start (suc steps) fewer said state (goes {said = xs} {says = x} {before = b} d h) few = elim (cases_lt fewer steps) [
  | inl less ↦ earlier P start steps fewer xs b d less
  | inr most ↦
      let same : steps ≡ fewer = omega arith in
      record { said = xs; state = b; run = subst (λ n. IsDerivation P start n xs b) same d; says = x; after = state; step = h }
]

no-step : (P : RuleList) (state after : List Alternative) (says : Says) → state ≡ [] → IsDerivationStep P state says after → ⊥
no-step P [] after says e h = elim h [ ]
no-step P (first ∷ rest) after says e h = cc

not-yet : (P : RuleList) (ask : Ask) (kept : List (List Node)) (steps fewer : ℕ) (said xs : List Says) (state : List Alternative) → IsAskRun P ask kept steps said state → fewer < steps
    → IsAskRun P ask kept fewer xs [] → ⊥
not-yet P ask kept steps fewer said xs state d few f =
    let t = earlier P (ask_start ask kept ∷ []) steps fewer said state d few in
    no-step P t.state t.after t.says (derivation_once P ask kept fewer t.said xs t.state [] t.run f).1 t.step

not-enough : (said : List Says) → HasEnough None said → ⊥
not-enough said e = cc

-- with fewer steps there is no end
before-end : (P : RuleList) (ask : Ask) (kept : List (List Node)) (budget steps : ℕ) (said : List Says) (state : List Alternative) → IsAskRun P ask kept steps said state → steps ≤ budget
    → (fewer : ℕ) (xs : List Says) (before : List Alternative) (way : Ending) → fewer < steps → IsAskRun P ask kept fewer xs before → EndsNow budget None fewer xs before way → ⊥
before-end P ask kept budget steps said state d within fewer xs before Enough few f ends = not-enough xs ends
before-end P ask kept budget steps said state d within fewer xs before End few f ends =
    not-yet P ask kept steps fewer said xs state d few (subst (IsAskRun P ask kept fewer xs) ends.0 f)
before-end P ask kept budget steps said state d within fewer xs before Stopped few f ends =
    let e : fewer ≡ budget = ends.0 in absurd (omega arith)

pub ends_without_alternatives : (P : RuleList) (ask : Ask) (kept : List (List Node)) (budget steps : ℕ) (said : List Says) → IsAskRun P ask kept steps said [] → steps ≤ budget
    → IsAskEnd P ask kept budget None steps said End
ends_without_alternatives P ask kept budget steps said d within = record {
  state = [];
  run = d;
  within = within;
  ends = (refl, not-enough said);
  least = before-end P ask kept budget steps said [] d within;
}

left-over : (first : Alternative) (rest : List Alternative) → first ∷ rest ≡ [] → ⊥
left-over first rest e = cc

pub stops_at_budget : (P : RuleList) (ask : Ask) (kept : List (List Node)) (budget : ℕ) (said : List Says) (first : Alternative) (rest : List Alternative) → IsAskRun P ask kept budget said (first ∷ rest)
    → IsAskEnd P ask kept budget None budget said Stopped
stops_at_budget P ask kept budget said first rest d = record {
  state = first ∷ rest;
  run = d;
  within = omega arith;
  ends = (refl, left-over first rest, not-enough said);
  least = before-end P ask kept budget budget said (first ∷ rest) d (omega arith);
}
