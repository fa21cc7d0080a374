-- Pairs that are met once each: how a list of them grows, and how many there can be.
use Rattle.std.proofs.Common.{◌≡◌, ℕ, ◌+◌, ◌*◌, ◌/◌, ◌%◌, ◌<◌, ◌≤◌, true, false, ◌&&◌, eqb, List, [], ◌∷◌, ◌++◌, length, map, All, Contains, refl, sym, subst, ap, ap₂, ◌∙◌, inl, inr, if◌then◌else◌, append-nil, Bool, ◌==◌, arith}
use Rattle.std.proofs.lemmas.Nat.{mul-add-lt, mod-mul-add, div-mul-add}
use Rattle.std.specs.List.{list_any, IsDistinct, AllByRecursion}
use Rattle.std.proofs.lemmas.Bool.{cases_Bool, false≢true, eq-eqb, ne_eqb, eqb-true, and_parts, and_from}
use Rattle.std.proofs.lemmas.Map.Steps.{length-le_from_distinct_below}
use Rattle.std.proofs.lemmas.Map.Views.{Contains-from_any}
use Rattle.std.proofs.lemmas.List.{length-map}
use Rattle.std.proofs.lemmas.List.Elements.{All-push, Contains-push, All-contains, recursion_from_All, All-from_recursion}
use Rattle.mars_tree.specs.Pairs.{MetPairs, PairsGrow}

-- whether two pairs are the same
abbrev pub same_pair : ℕ × ℕ → ℕ × ℕ → Bool
same_pair p q = (p.0 == q.0) && (p.1 == q.1)

-- the pairs with one that may be new
abbrev pub with_pair : List (ℕ × ℕ) → ℕ × ℕ → List (ℕ × ℕ)
with_pair met pair = if list_any (same_pair pair) met then met else met ++ pair ∷ []

pub same_pair-true : (p q : ℕ × ℕ) → same_pair p q ≡ true → p ≡ q
same_pair-true p q h =
    let both = and_parts (eqb p.0 q.0) (eqb p.1 q.1) h in
    ap₂ (λ a b. (a, b)) (eqb-true p.0 q.0 both.0) (eqb-true p.1 q.1 both.1)

same_pair-refl : (p : ℕ × ℕ) → same_pair p p ≡ true
same_pair-refl p = and_from (eqb p.0 p.0) (eqb p.1 p.1) (eq-eqb p.0 p.0 refl) (eq-eqb p.1 p.1 refl)

-- by whether the pair was met
with_pair-cases : (P : List (ℕ × ℕ) → Type 0) (met : List (ℕ × ℕ)) (pair : ℕ × ℕ) → (Contains met pair → P met) → P (met ++ pair ∷ []) → P (with_pair met pair)
with_pair-cases P met pair old new =
    elim (cases_Bool (list_any (same_pair pair) met)) [
      | inl e ↦ rw e (old (Contains-from_any same_pair-true pair met e))
      | inr e ↦ rw e new
    ]

pub with_pair-contains : (met : List (ℕ × ℕ)) (pair : ℕ × ℕ) → Contains (with_pair met pair) pair
with_pair-contains met pair = with_pair-cases (λ m. Contains m pair) met pair (λ c. c) (Contains-push met pair)

pub with_pair-All : (P : ℕ × ℕ → Type 0) (met : List (ℕ × ℕ)) (pair : ℕ × ℕ) → All P met → P pair → All P (with_pair met pair)
with_pair-All P met pair all p = with_pair-cases (All P) met pair (λ c. all) (All-push P met pair all p)

pub with_pair-grows : (met : List (ℕ × ℕ)) (pair : ℕ × ℕ) → (more : List (ℕ × ℕ)) × (with_pair met pair ≡ met ++ more) × All (λ p. p ≡ pair) more
with_pair-grows met pair =
    with_pair-cases (λ new. (more : List (ℕ × ℕ)) × (new ≡ met ++ more) × All (λ p. p ≡ pair) more) met pair
    (λ c. ([], sym (append-nil met), All-from_recursion (λ p. p ≡ pair) [] tt))
    (pair ∷ [], refl, All-from_recursion (λ p. p ≡ pair) (pair ∷ []) (refl, tt))

-- a pair as one number
abbrev code : ℕ → ℕ × ℕ → ℕ
code width pair = pair.0 * width + pair.1

code-same : (width : ℕ) (p q : ℕ × ℕ) → p.1 < width → q.1 < width → code width p ≡ code width q → p ≡ q
code-same width p q hp hq e =
    ap₂ (λ a b. (a, b))
    (sym (div-mul-add p.0 width p.1 hp) ∙ ap (λ c. c / width) e ∙ div-mul-add q.0 width q.1 hq)
    (sym (mod-mul-add p.0 width p.1 hp) ∙ ap (λ c. c % width) e ∙ mod-mul-add q.0 width q.1 hq)

abbrev pub IsInside : ℕ → ℕ → ℕ × ℕ → Type 0
IsInside height width pair = (pair.0 < height) × (pair.1 < width)

codes-apart : (height width : ℕ) (p : ℕ × ℕ) → IsInside height width p → (met : List (ℕ × ℕ)) → AllByRecursion (IsInside height width) met
    → AllByRecursion (λ q. same_pair p q ≡ false) met → AllByRecursion (λ c. eqb (code width p) c ≡ false) (map (code width) met)
codes-apart height width p h [] i d = tt
codes-apart height width p h (q ∷ met) i d = (
  ne_eqb (code width p) (code width q) (λ e. false≢true (sym d.0 ∙ ap (λ x. same_pair p x) (sym (code-same width p q h.1 i.0.1 e)) ∙ same_pair-refl p)),
  codes-apart height width p h met i.1 d.1,
)

codes-distinct : (height width : ℕ) (met : List (ℕ × ℕ)) → AllByRecursion (IsInside height width) met → IsDistinct same_pair met → IsDistinct eqb (map (code width) met)
unfolding IsDistinct
codes-distinct height width [] i d = tt
codes-distinct height width (p ∷ met) i d = (codes-apart height width p i.0 met i.1 d.0, codes-distinct height width met i.1 d.1)

codes-below : (height width : ℕ) (met : List (ℕ × ℕ)) → AllByRecursion (IsInside height width) met → AllByRecursion (λ c. c < height * width) (map (code width) met)
codes-below height width [] i = tt
codes-below height width (p ∷ met) i = (omega (arith, mul-add-lt p.0 width p.1 height i.0.0 i.0.1), codes-below height width met i.1)

-- there are at most as many pairs as the height times the width
pub length-met : (height width : ℕ) (met : List (ℕ × ℕ)) → All (IsInside height width) met → IsDistinct same_pair met → length met ≤ height * width
length-met height width met within distinct =
    let inside = recursion_from_All (IsInside height width) met within in
    let below = All-from_recursion (λ c. c < height * width) (map (code width) met) (codes-below height width met inside) in
    rw (length-map met (code width)) at
    (length-le_from_distinct_below (map (code width) met) (height * width) (codes-distinct height width met inside distinct)
    (λ q h. All-contains (λ c. c < height * width) (map (code width) met) q below (Contains-from_any (λ x y e. eqb-true x y e) q (map (code width) met) h)))

-- the pairs with one that may be new, as a growth
pub Grows-meet : (height width : ℕ) (pair : ℕ × ℕ) (keys now : List (ℕ × ℕ)) (old : MetPairs) → now ≡ with_pair keys pair →
    ◌≡◌ {A = MetPairs} (record { height = height; width = width; pairs = keys }) old → PairsGrow (λ p. p ≡ pair) old (record { height = height; width = width; pairs = now })
Grows-meet height width pair keys now old is seen =
    let new : MetPairs = record { height = height; width = width; pairs = now } in
    let grows : PairsGrow (λ p. p ≡ pair) (record { height = height; width = width; pairs = keys }) new = record {
      height = refl;
      width = refl;
      more = let m = with_pair-grows keys pair in (m.0, is ∙ m.1, m.2);
    } in
    subst (λ (o : MetPairs). PairsGrow (λ p. p ≡ pair) o new) seen grows
