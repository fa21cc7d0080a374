use Rattle.std.proofs.Common.{◌≡◌, ℕ, ◌<◌, ◌+◌, ◌||◌, Bool, true, false, nat_eq, List, [], ◌∷◌, ◌++◌, take, refl, sym, ap, ◌∙◌, arith, inl, inr, eq-eqb, ne_eqb}
use Rattle.std.proofs.lemmas.List.{length-set, get_or-set_other}
use Rattle.std.proofs.lemmas.Grind.{get_or-set_at}
use Rattle.std.specs.List.{list_any}
use Rattle.std.proofs.lemmas.Bool.{cases_eq}
use Rattle.mars_base.proofs.ListFacts.{take-next, All-get}
use Rattle.mars_rows.proofs.marks.marks.Goals as goal

any-push : (n x : ℕ) (xs : List ℕ) → list_any (nat_eq n) (xs ++ x ∷ []) ≡ (list_any (nat_eq n) xs || nat_eq n x)
any-push n x [] = either (nat_eq n x)
  where
    either : (b : Bool) → (b || false) ≡ (false || b)
    either true = refl
    either false = refl
any-push n x (y ∷ xs) = ap (λ b. nat_eq n y || b) (any-push n x xs) ∙ either (nat_eq n y) (list_any (nat_eq n) xs) (nat_eq n x)
  where
    either : (a b c : Bool) → (a || (b || c)) ≡ ((a || b) || c)
    either true b c = refl
    either false b c = refl

or-true : (b : Bool) → true ≡ (b || true)
or-true true = refl
or-true false = refl

or-false : (b : Bool) → b ≡ (b || false)
or-false true = refl
or-false false = refl

pub loop-place-preserved : goal.loop-place-preserved
loop-place-preserved c =
    let marks : List Bool = c.loop-place.marks.items in
    let order : List ℕ = c.args.order.now in
    let place : ℕ = c.loop-place.place in
    let x : ℕ = c.get.result in
    let more : take (place + 1) order ≡ take place order ++ x ∷ [] = take-next order place x c.get.ensures in
    let x_in : x < c.args.count = All-get (λ n. n < c.args.count) order place x c.requires c.get.ensures in
    let after = λ (n : ℕ). any-push n x (take place order) in
    record {
      size = length-set marks x true ∙ c.loop-place.invariant.size;
      each = λ n lt. elim (cases_eq n x) [
        | inl same ↦
            get_or-set_at marks x n true false same (omega (arith, c.loop-place.invariant.size, x_in)) ∙ or-true (list_any (nat_eq n) (take place order))
            ∙ sym (ap (λ b. list_any (nat_eq n) (take place order) || b) (eq-eqb n x same)) ∙ sym (after n) ∙ sym (ap (list_any (nat_eq n)) more)
        | inr other ↦
            get_or-set_other marks x n true false other ∙ c.loop-place.invariant.each n lt ∙ or-false (list_any (nat_eq n) (take place order))
            ∙ sym (ap (λ b. list_any (nat_eq n) (take place order) || b) (ne_eqb n x other)) ∙ sym (after n) ∙ sym (ap (list_any (nat_eq n)) more)
      ];
    }
