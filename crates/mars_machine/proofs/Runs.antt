-- A run, and the end of an ask, are determined.
use Rattle.std.proofs.Common.{◌≡◌, ◌≢◌, ℕ, zero, suc, ◌<◌, List, [], ◌∷◌, ◌++◌, length, All, Option, None, refl, sym, ap₂, subst, arith, inl, inr, lit≤, replicate}
use Rattle.std.proofs.lemmas.Bool.{cases_lt}
use Rattle.std.proofs.lemmas.List.{length-replicate}
use Rattle.std.proofs.lemmas.List.Elements.{All-nil, All-cons, All-replicate}
use Rattle.mars_tree.specs.Graph.{Node, IsNode, labelled}
use Rattle.mars_store.specs.Valuation.{Valuation, IsValuation}
use Rattle.mars_store.specs.Solutions.{constant}
use Rattle.mars_term.specs.declared.clause.Ask.{Ask}
use Rattle.mars_rules.specs.RuleLists.{RuleList}
use Rattle.mars_machine.specs.declared.ending.Ending.{Ending}
use Rattle.mars_machine.specs.declared.ending.Ending.TheVariants.{End, Enough, Stopped}
use Rattle.mars_machine.specs.Equations.{HaveOneTree}
use Rattle.mars_machine.specs.Alternatives.{Alternative, ask_start}
use Rattle.mars_machine.specs.Steps.{Says, IsDerivation, IsDerivationStep, IsAskRun}
use Rattle.mars_machine.specs.Steps.IsDerivation.{begins, goes}
use Rattle.mars_machine.specs.Asks.{EndsNow, IsAskEnd}
use Rattle.mars_machine.specs.StepLaws.{IsAlive}
use Rattle.mars_machine.proofs.Steps.{state_once, state_alive}

-- a graph of one constant
abbrev pub one_node : List Node
one_node = labelled (constant 0) [] ∷ []

-- each variable is that constant
abbrev pub all_same : ℕ → Valuation
all_same count = record { graph = one_node; nodes = replicate count 0 }

no-leaf : (labelled (constant 0) []).label ≡ None → ⊥
no-leaf e = cc

pub all_same_valid : (count : ℕ) → IsValuation count (all_same count)
all_same_valid count = record {
  graph = All-cons (IsNode 1) (labelled (constant 0) []) [] (record { kids = refl; in_range = All-nil (λ kid. kid < 1) }) (All-nil (IsNode 1));
  ground = All-cons (λ node. node.label ≢ None) (labelled (constant 0) []) [] no-leaf (All-nil (λ node. node.label ≢ None));
  each = length-replicate count 0;
  inside = All-replicate (λ n. n < 1) count 0 (lit≤ tt);
}

pub start_alive : (ask : Ask) (kept : List (List Node)) → IsAlive (ask_start ask kept)
start_alive ask kept = record {
  v = all_same (length ask.vars);
  solves = record { valuation = all_same_valid (length ask.vars); equal = All-nil (HaveOneTree kept (all_same (length ask.vars))) };
  apart = All-nil (λ pair. HaveOneTree kept (all_same (length ask.vars)) pair → ⊥);
}

run-alive : (P : RuleList) (start : List Alternative) → All IsAlive start → (steps : ℕ) (said : List Says) (state : List Alternative) → IsDerivation P start steps said state → All IsAlive state
run-alive P start alive zero said state begins = alive
run-alive P start alive (suc steps) said state (goes {said = xs} {says = x} {before = b} d h) = state_alive P b state x (run-alive P start alive steps xs b d) h

run-once : (P : RuleList) (start : List Alternative) → All IsAlive start → (steps : ℕ) (said others : List Says) (state other : List Alternative)
    → IsDerivation P start steps said state → IsDerivation P start steps others other → (said ≡ others) × (state ≡ other)
run-once P start alive zero said others state other begins begins = (refl, refl)
run-once P start alive (suc steps) said others state other (goes {said = xs} {says = x} {before = b} d h) (goes {said = ys} {says = y} {before = c} f k) =
    let r = run-once P start alive steps xs ys b c d f in
    let s = state_once P b (run-alive P start alive steps xs b d) x y state other h (subst (λ c. IsDerivationStep P c y other) (sym r.1) k) in
    (ap₂ (λ xs x. xs ++ x ∷ []) r.0 s.0, s.1)

start-live : (ask : Ask) (kept : List (List Node)) → All IsAlive (ask_start ask kept ∷ [])
start-live ask kept = All-cons IsAlive (ask_start ask kept) [] (start_alive ask kept) (All-nil IsAlive)

pub derivation_once : (P : RuleList) (ask : Ask) (kept : List (List Node)) (steps : ℕ) (said others : List Says) (state other : List Alternative)
    → IsAskRun P ask kept steps said state → IsAskRun P ask kept steps others other → (said ≡ others) × (state ≡ other)
derivation_once P ask kept steps said others state other d f = run-once P (ask_start ask kept ∷ []) (start-live ask kept) steps said others state other d f

pub one_way : (budget : ℕ) (most : Option ℕ) (steps : ℕ) (said : List Says) (state : List Alternative) (a b : Ending)
    → EndsNow budget most steps said state a → EndsNow budget most steps said state b → a ≡ b
one_way budget most steps said state Enough Enough h k = refl
one_way budget most steps said state Enough End h k = absurd (k.1 h)
one_way budget most steps said state Enough Stopped h k = absurd (k.2 h)
one_way budget most steps said state End Enough h k = absurd (h.1 k)
one_way budget most steps said state End End h k = refl
one_way budget most steps said state End Stopped h k = absurd (k.1 h.0)
one_way budget most steps said state Stopped Enough h k = absurd (h.2 k)
one_way budget most steps said state Stopped End h k = absurd (h.1 k.0)
one_way budget most steps said state Stopped Stopped h k = refl

module _ (P : RuleList) (ask : Ask) (kept : List (List Node)) (budget : ℕ) (most : Option ℕ) where
  not-fewer : (steps more : ℕ) (said others : List Says) (a b : Ending) → IsAskEnd P ask kept budget most steps said a → IsAskEnd P ask kept budget most more others b → steps < more → ⊥
  not-fewer steps more said others a b h k few = k.least steps said h.state a few h.run h.ends

  one-count : (steps more : ℕ) (said others : List Says) (a b : Ending) → IsAskEnd P ask kept budget most steps said a → IsAskEnd P ask kept budget most more others b → steps ≡ more
  one-count steps more said others a b h k = elim (cases_lt steps more) [
    | inl few ↦ absurd (not-fewer steps more said others a b h k few)
    | inr many ↦ elim (cases_lt more steps) [
      | inl few ↦ absurd (not-fewer more steps others said b a k h few)
      | inr few ↦ omega arith
    ]
  ]

  same-end : (steps more : ℕ) (said others : List Says) (a b : Ending) → steps ≡ more → IsAskEnd P ask kept budget most steps said a → IsAskEnd P ask kept budget most more others b
      → (said ≡ others) × (a ≡ b)
  same-end steps more said others a b same h k =
      let run : IsAskRun P ask kept steps others k.state = subst (λ n. IsAskRun P ask kept n others k.state) (sym same) k.run in
      let one = derivation_once P ask kept steps said others h.state k.state h.run run in
      let ends : EndsNow budget most steps others k.state b = subst (λ n. EndsNow budget most n others k.state b) (sym same) k.ends in
      let here : EndsNow budget most steps said h.state b = subst (λ said. EndsNow budget most steps said h.state b) (sym one.0) (subst (λ state. EndsNow budget most steps others state b) (sym one.1) ends) in
      (one.0, one_way budget most steps said h.state a b h.ends here)

  pub end_once : (steps more : ℕ) (said others : List Says) (a b : Ending) → IsAskEnd P ask kept budget most steps said a → IsAskEnd P ask kept budget most more others b
      → (steps ≡ more) × (said ≡ others) × (a ≡ b)
  end_once steps more said others a b h k =
      let count = one-count steps more said others a b h k in
      let rest = same-end steps more said others a b count h k in
      (count, rest.0, rest.1)
