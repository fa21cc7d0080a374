-- An equation that bound a variable wasn't implied before.
use Rattle.std.proofs.Common.{◌≡◌, ◌≢◌, ℕ, zero, suc, ◌<◌, List, [], ◌∷◌, length, take, get_or, Option, Some, None, refl, sym, ap, ◌∙◌, subst, arith, inl, inr}
use Rattle.std.proofs.lemmas.List.{get_or-take}
use Rattle.std.proofs.lemmas.List.Elements.{All-get_or, All-from_get_or}
use Rattle.mars_tree.specs.declared.label.Label.{Label}
use Rattle.mars_tree.specs.Graph.{label as at_label, label_of}
use Rattle.mars_store.specs.Valuation.{value, Agree}
use Rattle.mars_store.specs.System.{System, IsSystem, IsTriangular, IsUnbound, IsLink, rank}
use Rattle.mars_store.specs.Solutions.{InSol, plain, plain_label, AreNew, constant}
use Rattle.mars_store.specs.Laws.{new_names}
use Rattle.mars_store.proofs.CallerLemmas.{resolve-unbound, cases-label, plain-value, name-of, same-label, new_names-new}

triangular-apart : (bound : List (ℕ × ℕ)) → IsTriangular bound → (i k : ℕ) (d : ℕ × ℕ) → i < k → k < length bound
    → ((get_or bound k d).0 ≢ (get_or bound i d).0) × ((get_or bound k d).1 ≢ (get_or bound i d).0)
triangular-apart [] t i k d h w = absurd (omega arith)
triangular-apart (e ∷ later) t i zero d h w = absurd (omega arith)
triangular-apart (e ∷ later) t zero (suc k) d h w = All-get_or (λ next. (next.0 ≢ e.0) × (next.1 ≢ e.0)) later k d (omega arith) t.0
triangular-apart (e ∷ later) t (suc i) (suc k) d h w = triangular-apart later t.1 i k d (omega arith) (omega arith)

pub bound-not-implied : (old new : System) → IsSystem old → IsSystem new → new.nodes ≡ old.nodes
    → take (length old.bound) new.bound ≡ old.bound → length old.bound < length new.bound
    → InSol new (plain old (new_names old)) → ⊥
bound-not-implied old new so sn nodes front more sol =
    elim (cases-label (label_of old.nodes y)) [
      | inl free ↦
          let same : x ≡ y = fresh.different x y (name-of _ _ (same-label _ _ (sym x-root ∙ agree.along [] ∙ y-root None free))) in
          absurd (let f : rank new.nodes y < rank new.nodes y = subst (λ n. rank new.nodes y < rank new.nodes n) same link.falls in omega arith)
      | inr (label, is) ↦
          let same : constant (new_names old x) ≡ label = same-label _ _ (sym x-root ∙ agree.along [] ∙ y-root (Some label) is) in
          absurd (fresh.new x y (is ∙ ap Some (sym same)))
    ]
  where
    e : ℕ × ℕ
    e = get_or new.bound (length old.bound) (0, 0)

    x : ℕ
    x = e.0

    y : ℕ
    y = e.1

    fresh : AreNew old (new_names old)
    fresh = new_names-new old

    link : IsLink new.nodes e
    link = All-get_or (IsLink new.nodes) new.bound (length old.bound) (0, 0) more sn.links

    x-free : label_of old.nodes x ≡ None
    x-free = rw (← nodes) link.variable.free

    x-in : x < length old.nodes
    x-in = rw (← nodes) link.variable.inside

    y-in : y < length old.nodes
    y-in = rw (← nodes) link.inside

    agree : Agree (plain old (new_names old)) x y
    agree = All-get_or (λ equation. Agree (plain old (new_names old)) equation.0 equation.1) new.bound (length old.bound) (0, 0) more sol.bound

    earlier : (i : ℕ) → i < length old.bound → get_or old.bound i (0, 0) ≡ get_or new.bound i (0, 0)
    earlier i h = ap (λ b. get_or b i (0, 0)) (sym front) ∙ get_or-take (length old.bound) new.bound i (0, 0) h

    x-unbound : IsUnbound old.bound x
    x-unbound = All-from_get_or (λ equation. equation.0 ≢ x) old.bound (0, 0) (λ i h p.
        (triangular-apart new.bound sn.triangular i (length old.bound) (0, 0) h more).0 (sym (sym (ap (λ q. q.0) (earlier i h)) ∙ p)))

    y-unbound : IsUnbound old.bound y
    y-unbound = All-from_get_or (λ equation. equation.0 ≢ y) old.bound (0, 0) (λ i h p.
        (triangular-apart new.bound sn.triangular i (length old.bound) (0, 0) h more).1 (sym (sym (ap (λ q. q.0) (earlier i h)) ∙ p)))

    x-root : value (plain old (new_names old)) x [] ≡ Some (at_label (constant (new_names old x)))
    x-root = plain-value old so (new_names old) x x-in [] ∙ rw (resolve-unbound old.bound x x-unbound, x-free) refl

    y-root : (o : Option Label) → label_of old.nodes y ≡ o → value (plain old (new_names old)) y [] ≡ Some (at_label (plain_label (new_names old y) o))
    y-root o is = plain-value old so (new_names old) y y-in [] ∙ rw (resolve-unbound old.bound y y-unbound, is) refl
