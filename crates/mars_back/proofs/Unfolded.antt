-- References and their terms, looked through one node; and induction along nodes that aren't named.
use Rattle.std.proofs.Common.{◌≡◌, ◌⊎◌, ℕ, zero, suc, ◌<◌, ◌+◌, List, [], Option, Some, None, length, map, refl, subst, ◌∙◌, arith, inl, inr, Contains}
use Rattle.std.proofs.lemmas.List.Elements.{All-contains, All-get_or}
use Rattle.mars_tree.specs.declared.label.Label.{Label}
use Rattle.mars_tree.specs.Graph.{IsNode, label_of, kids_of, free_leaf}
use Rattle.mars_canon.specs.Canon.{Rooted, IsCanon}
use Rattle.mars_graphs.specs.Systems.{Side}
use Rattle.mars_print.specs.Text.{name_of, kids_below, kids_shown}
use Rattle.mars_print.proofs.Settled.{settled, shown_after}
use Rattle.mars_back.specs.Written.{Naming, named_or_side, body_side_over, side_to, reference_side, body_side}

shown_are : (o : Option ℕ) (kids : List ℕ) (k : ℕ) → Contains (kids_below o kids) k → Contains kids k
shown_are None kids k t = t
shown_are (Some number) kids k t = absurd (omega (arith, t.1))

module _ (c : Rooted) (is : IsCanon c) where
  shown_in : (n k : ℕ) → n < length c.nodes → Contains (kids_shown c n) k → k < length c.nodes
  shown_in n k n_in there = All-contains (λ kid. kid < length c.nodes) (kids_of c.nodes n) k (All-get_or (IsNode (length c.nodes)) c.nodes n free_leaf n_in is.graph).in_range (shown_are (name_of c n) (kids_of c.nodes n) k there)

  -- what holds of a node where it holds of those that are shown below it holds of each
  module _ (P : ℕ → Type 0) (step : (n : ℕ) → n < length c.nodes → ((k : ℕ) → k < length c.nodes → Contains (kids_shown c n) k → P k) → P n) where
    by_fuel : (fuel n : ℕ) → n < length c.nodes → 0 < fuel → (kids_shown c n ≡ []) ⊎ (length c.nodes < fuel + n) → P n
    by_fuel zero n n_in some enough = absurd (omega (arith, some))
    by_fuel (suc fuel) n n_in some enough = step n n_in (λ k k_in there. elim enough [
      | inl none ↦ absurd (let t : Contains [] k = subst (λ ks. Contains ks k) none there in omega (arith, t.1))
      | inr deep ↦ by_fuel fuel k k_in (omega (arith, deep, n_in)) (elim (shown_after c is n k n_in k_in there) [ inl e ↦ inl e | inr lt ↦ inr (omega (arith, deep, lt)) ])
    ])

    pub along_shown : (n : ℕ) → n < length c.nodes → P n
    along_shown n n_in = by_fuel (suc (length c.nodes)) n n_in (omega arith) (inr (omega arith))

  unnamed_side : (naming : Naming) (o : Option ℕ) (label : Option Label) (f : ℕ → Side) (kids : List ℕ) →
      named_or_side naming o (body_side_over naming label (map f (kids_below o kids))) ≡ named_or_side naming o (body_side_over naming label (map f kids))
  unnamed_side naming None label f kids = refl
  unnamed_side naming (Some number) label f kids = refl

  pub side_unfold : (naming : Naming) (n : ℕ) → n < length c.nodes → reference_side naming c n ≡ named_or_side naming (name_of c n) (body_side naming c n)
  unfolding reference_side
  side_unfold naming n n_in =
      settled c is Side (λ depth m. side_to depth naming c m) (λ m sides. named_or_side naming (name_of c m) (body_side_over naming (label_of c.nodes m) sides)) (λ depth m. refl) n n_in
      ∙ unnamed_side naming (name_of c n) (label_of c.nodes n) (λ m. side_to (suc (length c.nodes)) naming c m) (kids_of c.nodes n)
