-- Lists of pairs, each once, and the sets in which they are found.
use Rattle.std.proofs.Common.{◌≡◌, ℕ, ◌+◌, ◌*◌, ◌/◌, ◌%◌, ◌<◌, ◌≤◌, Bool, true, false, eqb, ◌&&◌, ◌||◌, List, [], ◌∷◌, ◌++◌, length, map, take, All, Contains, refl, sym, ap, ap₂, ◌∙◌, arith, inl, inr, length-append}
use Rattle.std.specs.Cmp.{IsEquivalence}
use Rattle.std.specs.List.{list_any, AllByRecursion, IsDistinct}
use Rattle.std.proofs.lemmas.Bool.{cases_Bool, false≢true, eq-eqb, ne_eqb, eqb-true, and_parts, and_from}
use Rattle.std.proofs.lemmas.Cmp.{nat_eq_equiv}
use Rattle.std.proofs.lemmas.List.{take-append-le, take_all, take-take, length-map}
use Rattle.std.proofs.lemmas.List.Elements.{All-push, Contains-push, All-contains, recursion_from_All, All-from_recursion}
use Rattle.std.proofs.lemmas.List.Folds.{list_any-append}
use Rattle.std.proofs.lemmas.Map.Keys.{IsDistinct-push}
use Rattle.std.proofs.lemmas.Map.Steps.{length-le_from_distinct_below}
use Rattle.std.proofs.lemmas.Map.Views.{Contains-from_any}
use Rattle.std.proofs.lemmas.Nat.{mul-add-lt, mod-mul-add, div-mul-add}
use Rattle.mars_unify.specs.MetInside.{same_pair, with_pair, Words, IsPair, is_set, IsIndex}

pub same_pair-sym : (p q : ℕ × ℕ) → same_pair p q ≡ same_pair q p
same_pair-sym p q = ap₂ (λ a b. a && b) (nat_eq_equiv.symm p.0 q.0) (nat_eq_equiv.symm p.1 q.1)

pub same_pair-refl : (p : ℕ × ℕ) → same_pair p p ≡ true
same_pair-refl p = and_from (eqb p.0 p.0) (eqb p.1 p.1) (eq-eqb p.0 p.0 refl) (eq-eqb p.1 p.1 refl)

pub same_pair-true : (p q : ℕ × ℕ) → same_pair p q ≡ true → p ≡ q
same_pair-true p q h =
    let both = and_parts (eqb p.0 q.0) (eqb p.1 q.1) h in
    ap₂ (λ a b. (a, b)) (eqb-true p.0 q.0 both.0) (eqb-true p.1 q.1 both.1)

same_pair-equivalence : IsEquivalence same_pair
same_pair-equivalence = record {
  refl = same_pair-refl;
  symm = same_pair-sym;
  congr = λ p q r h. ap (λ x. same_pair x r) (same_pair-true p q h);
}

at-end : (a b : Bool) → (a || b) ≡ (b || (a || false))
at-end true true = refl
at-end true false = refl
at-end false true = refl
at-end false false = refl

-- the bits, with one pair's more
pub index-push : (old new : Words) (pairs : List (ℕ × ℕ)) (pair : ℕ × ℕ) → IsIndex old pairs
    → ((q : ℕ × ℕ) → IsPair q → is_set new q ≡ (same_pair q pair || is_set old q)) → IsIndex new (pairs ++ pair ∷ [])
index-push old new pairs pair is step = record {
  has = λ q h.
      step q h ∙ ap (λ b. same_pair q pair || b) (is.has q h) ∙ at-end (same_pair q pair) (list_any (same_pair q) pairs)
      ∙ sym (list_any-append (same_pair q) pairs (pair ∷ []));
}

-- a list with more at its end
pub record IsFront (before after : List (ℕ × ℕ)) : Type 0 where
  pub size : length before ≤ length after
  pub front : take (length before) after ≡ before

pub front-refl : (pairs : List (ℕ × ℕ)) → IsFront pairs pairs
front-refl pairs = record { size = omega arith; front = take_all (length pairs) pairs (omega arith) }

pub front-push : (pairs : List (ℕ × ℕ)) (pair : ℕ × ℕ) → IsFront pairs (pairs ++ pair ∷ [])
front-push pairs pair = record {
  size = omega (arith, length-append pairs (pair ∷ []));
  front = take-append-le (length pairs) pairs (pair ∷ []) (omega arith) ∙ take_all (length pairs) pairs (omega arith);
}

pub front-trans : (a b c : List (ℕ × ℕ)) → IsFront a b → IsFront b c → IsFront a c
front-trans a b c f g =
    let fs = f.size in let gs = g.size in
    record {
      size = omega arith;
      front = sym (take-take (length a) (length b) c fs) ∙ ap (take (length a)) g.front ∙ f.front;
    }

-- by whether the pair was there
pub with_pair-cases : (P : List (ℕ × ℕ) → Type 0) (pairs : List (ℕ × ℕ)) (pair : ℕ × ℕ)
    → (Contains pairs pair → P pairs) → (list_any (same_pair pair) pairs ≡ false → P (pairs ++ pair ∷ [])) → P (with_pair pairs pair)
with_pair-cases P pairs pair old new =
    elim (cases_Bool (list_any (same_pair pair) pairs)) [
      | inl e ↦ rw e (old (Contains-from_any same_pair-true pair pairs e))
      | inr e ↦ rw e (new e)
    ]

pub with_pair-front : (pairs : List (ℕ × ℕ)) (pair : ℕ × ℕ) → IsFront pairs (with_pair pairs pair)
with_pair-front pairs pair = with_pair-cases (IsFront pairs) pairs pair (λ c. front-refl pairs) (λ e. front-push pairs pair)

pub with_pair-contains : (pairs : List (ℕ × ℕ)) (pair : ℕ × ℕ) → Contains (with_pair pairs pair) pair
with_pair-contains pairs pair = with_pair-cases (λ m. Contains m pair) pairs pair (λ c. c) (λ e. Contains-push pairs pair)

pub with_pair-All : (P : ℕ × ℕ → Type 0) (pairs : List (ℕ × ℕ)) (pair : ℕ × ℕ) → All P pairs → P pair → All P (with_pair pairs pair)
with_pair-All P pairs pair all p = with_pair-cases (All P) pairs pair (λ c. all) (λ e. All-push P pairs pair all p)

pub with_pair-distinct : (pairs : List (ℕ × ℕ)) (pair : ℕ × ℕ) → IsDistinct same_pair pairs → IsDistinct same_pair (with_pair pairs pair)
with_pair-distinct pairs pair d = with_pair-cases (IsDistinct same_pair) pairs pair (λ c. d) (λ e. IsDistinct-push same_pair-equivalence pairs pair d e)

-- a pair as one number
abbrev code : ℕ → ℕ × ℕ → ℕ
code size pair = pair.0 * size + pair.1

code-same : (size : ℕ) (p q : ℕ × ℕ) → p.1 < size → q.1 < size → code size p ≡ code size q → p ≡ q
code-same size p q hp hq e =
    ap₂ (λ a b. (a, b))
    (sym (div-mul-add p.0 size p.1 hp) ∙ ap (λ c. c / size) e ∙ div-mul-add q.0 size q.1 hq)
    (sym (mod-mul-add p.0 size p.1 hp) ∙ ap (λ c. c % size) e ∙ mod-mul-add q.0 size q.1 hq)

abbrev pub IsInside : ℕ → ℕ × ℕ → Type 0
IsInside size pair = (pair.0 < size) × (pair.1 < size)

codes-apart : (size : ℕ) (p : ℕ × ℕ) → IsInside size p → (pairs : List (ℕ × ℕ)) → AllByRecursion (IsInside size) pairs
    → AllByRecursion (λ q. same_pair p q ≡ false) pairs → AllByRecursion (λ c. eqb (code size p) c ≡ false) (map (code size) pairs)
codes-apart size p h [] i d = tt
codes-apart size p h (q ∷ pairs) i d = (
  ne_eqb (code size p) (code size q) (λ e. false≢true (sym d.0 ∙ ap (λ x. same_pair p x) (sym (code-same size p q h.1 i.0.1 e)) ∙ same_pair-refl p)),
  codes-apart size p h pairs i.1 d.1,
)

codes-distinct : (size : ℕ) (pairs : List (ℕ × ℕ)) → AllByRecursion (IsInside size) pairs → IsDistinct same_pair pairs → IsDistinct eqb (map (code size) pairs)
unfolding IsDistinct
codes-distinct size [] i d = tt
codes-distinct size (p ∷ pairs) i d = (codes-apart size p i.0 pairs i.1 d.0, codes-distinct size pairs i.1 d.1)

codes-below : (size : ℕ) (pairs : List (ℕ × ℕ)) → AllByRecursion (IsInside size) pairs → AllByRecursion (λ c. c < size * size) (map (code size) pairs)
codes-below size [] i = tt
codes-below size (p ∷ pairs) i = (mul-add-lt p.0 size p.1 size i.0.0 i.0.1, codes-below size pairs i.1)

-- there are at most as many pairs as nodes times nodes
pub length-pairs : (size : ℕ) (pairs : List (ℕ × ℕ)) → All (IsInside size) pairs → IsDistinct same_pair pairs → length pairs ≤ size * size
length-pairs size pairs all d =
    let inside = recursion_from_All (IsInside size) pairs all in
    let below = All-from_recursion (λ c. c < size * size) (map (code size) pairs) (codes-below size pairs inside) in
    rw (length-map pairs (code size)) at
    (length-le_from_distinct_below (map (code size) pairs) (size * size) (codes-distinct size pairs inside d)
    (λ q h. All-contains (λ c. c < size * size) (map (code size) pairs) q below (Contains-from_any (λ x y e. eqb-true x y e) q (map (code size) pairs) h)))

pub none-distinct : IsDistinct same_pair []
unfolding IsDistinct
none-distinct = tt
