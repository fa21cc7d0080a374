-- Tests that decide a fact, for the crates above.
use Rattle.std.specs.Prelude.{◌≡◌, Bool, true, false, ◌&&◌, refl}
use Rattle.std.proofs.Common.{sym, ap}
use Rattle.std.specs.Bool.{Decides}
use Rattle.std.specs.Cmp.{IsEquivalence}

-- two tests at once
pub both : (a b : Bool) → (a && b) ≡ true → (a ≡ true) × (b ≡ true)
both true b e = (refl, e)
both false b e = cc

pub joined : (a b : Bool) → a ≡ true → b ≡ true → (a && b) ≡ true
joined a b e f = rw (e, f) refl

same_answers : (a b : Bool) → (a ≡ true → b ≡ true) → (b ≡ true → a ≡ true) → a ≡ b
same_answers true b f g = sym (f refl)
same_answers false true f g = g refl
same_answers false false f g = refl

-- a test that decides equality is an equivalence
pub equivalence_from_decides : {K : Type 0} (E : K → K → Bool) → ((x y : K) → Decides (E x y) (x ≡ y)) → IsEquivalence E
equivalence_from_decides E d = record {
  refl = λ x. (d x x).1 refl;
  symm = λ x y. same_answers (E x y) (E y x) (λ e. (d y x).1 (sym ((d x y).0 e))) (λ e. (d x y).1 (sym ((d y x).0 e)));
  congr = λ x y z e. ap (λ w. E w z) ((d x y).0 e);
}
