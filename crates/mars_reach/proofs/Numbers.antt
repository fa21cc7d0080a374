-- Lists of numbers: their elements, and those in which no number occurs twice.
use Rattle.std.proofs.Common.{◌≡◌, ◌⊎◌, ℕ, zero, suc, ◌<◌, ◌≤◌, Bool, true, false, cond, nat_eq, List, [], ◌∷◌, ◌++◌, length, get_or, Some, slice_get, refl, sym, subst, ap, ◌∙◌, arith, inl, inr, All, Contains, eq-eqb}
use Rattle.std.specs.List.{list_any, IsDistinct, AllByRecursion}
use Rattle.std.proofs.lemmas.Bool.{false≢true, cases_lt}
use Rattle.std.proofs.lemmas.Option.{same_Some, slice_get_within, get_or_from_slice_get, slice_get-get_or}
use Rattle.std.proofs.lemmas.List.Elements.{All-get_or, All-nil, All-cons, All-head, All-tail, All-append}
use Rattle.mars_tree.proofs.Pigeonhole.{pigeonhole, Twice}
use Rattle.mars_reach.specs.Order.{AreDistinct, with_number, met_after}

-- an element and its place
pub contains_at : (xs : List ℕ) (k x : ℕ) → slice_get xs k ≡ Some x → Contains xs x
contains_at xs k x e = (k, slice_get_within xs k x e, get_or_from_slice_get xs k x x e)

pub at_contains : (xs : List ℕ) (x : ℕ) → Contains xs x → (k : ℕ) × (slice_get xs k ≡ Some x)
at_contains xs x (k, within, here) = (k, slice_get-get_or xs k x within ∙ ap (λ z. Some z) here)

-- what holds of each element holds of all
pub All-from_gets : (P : ℕ → Type 0) (xs : List ℕ) → ((k x : ℕ) → slice_get xs k ≡ Some x → P x) → All P xs
All-from_gets P [] each = All-nil P
All-from_gets P (x ∷ xs) each = All-cons P x xs (each 0 x refl) (All-from_gets P xs (λ k. each (suc k)))

pub All-slice_get : (P : ℕ → Type 0) (xs : List ℕ) (k x : ℕ) → All P xs → slice_get xs k ≡ Some x → P x
All-slice_get P xs k x all get = subst P (get_or_from_slice_get xs k x x get) (All-get_or P xs k x (slice_get_within xs k x get) all)

-- what holds of all that was met and is met holds of all
pub All-met : (P : ℕ → Type 0) (met xs : List ℕ) → All P met → All P xs → All P (met_after met xs)
All-met P met [] old new = old
All-met P met (x ∷ xs) old new =
    All-met P (with_number met x) xs (either (list_any (nat_eq x) met)) (All-tail P x xs new)
  where
    either : (b : Bool) → All P (cond b met (met ++ x ∷ []))
    either true = old
    either false = All-append P met (x ∷ []) old (All-cons P x [] (All-head P x xs new) (All-nil P))

-- numbers that pairwise fail the test are distinct
apart_below : (xs : List ℕ) (x i : ℕ) → AllByRecursion (λ y. nat_eq x y ≡ false) xs → slice_get xs i ≡ Some x → ⊥
apart_below [] x i all e = cc
apart_below (y ∷ xs) x zero all e = false≢true (sym all.0 ∙ eq-eqb x y (sym (same_Some y x e)))
apart_below (y ∷ xs) x (suc i) all e = apart_below xs x i all.1 e

pub distinct_from_unique : (xs : List ℕ) → IsDistinct nat_eq xs → AreDistinct xs
unfolding IsDistinct
distinct_from_unique [] d i j x left right = cc
distinct_from_unique (y ∷ xs) d zero zero x left right = refl
distinct_from_unique (y ∷ xs) d zero (suc j) x left right = absurd (apart_below xs y j d.0 (right ∙ sym left))
distinct_from_unique (y ∷ xs) d (suc i) zero x left right = absurd (apart_below xs y i d.0 (left ∙ sym right))
distinct_from_unique (y ∷ xs) d (suc i) (suc j) x left right = ap suc (distinct_from_unique xs d.1 i j x left right)

-- distinct numbers below a bound are not more
pub distinct_count : (xs : List ℕ) (n : ℕ) → AreDistinct xs → All (λ x. x < n) xs → length xs ≤ n
distinct_count xs n distinct below = elim (cases_lt n (length xs)) [
  | inl many ↦
      let twice : Twice n (λ k. get_or xs k 0) = pigeonhole n (λ k. get_or xs k 0) (λ k le. All-get_or (λ x. x < n) xs k 0 (omega (arith, le, many)) below) in
      let i_in : twice.i < length xs = omega (arith, twice.before, twice.within, many) in
      let j_in : twice.j < length xs = omega (arith, twice.within, many) in
      let same : twice.i ≡ twice.j = distinct twice.i twice.j (get_or xs twice.j 0) (slice_get-get_or xs twice.i 0 i_in ∙ ap (λ z. Some z) twice.same) (slice_get-get_or xs twice.j 0 j_in) in
      absurd (omega (arith, same, twice.before))
  | inr le ↦ le
]

-- a map onto the numbers below `m` needs as many numbers
pub onto_small : (m n : ℕ) (number : ℕ → ℕ) → ((c : ℕ) → c < m → (u : ℕ) × (u < n) × (number u ≡ c)) → m ≤ n
onto_small m n number onto = elim (cases_lt n m) [
  | inl many ↦
      let f : ℕ → ℕ = λ c. pick c (cases_lt c m) in
      let twice : Twice n f = pigeonhole n f (λ k le. (picked k (cases_lt k m) (omega (arith, le, many))).1) in
      let i_in : twice.i < m = omega (arith, twice.before, twice.within, many) in
      let j_in : twice.j < m = omega (arith, twice.within, many) in
      let same : twice.i ≡ twice.j = sym (picked twice.i (cases_lt twice.i m) i_in).0 ∙ ap number twice.same ∙ (picked twice.j (cases_lt twice.j m) j_in).0 in
      absurd (omega (arith, same, twice.before))
  | inr le ↦ le
]
  where
    pick : (c : ℕ) → (c < m) ⊎ (m ≤ c) → ℕ
    pick c (inl lt) = (onto c lt).0
    pick c (inr le) = 0

    picked : (c : ℕ) (d : (c < m) ⊎ (m ≤ c)) → c < m → (number (pick c d) ≡ c) × (pick c d < n)
    picked c (inl lt) h = let o = onto c lt in (o.2, o.1)
    picked c (inr le) h = absurd (omega (arith, le, h))
