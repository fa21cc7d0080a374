-- Numbers as `parse` reads them, and as the words' definition does.
use Rattle.std.proofs.Common.{◌≡◌, ℕ, List, ◌∷◌, ◌<◌, ◌≤◌, ◌^◌, length, Bool, true, false, Option, Some, None, Result, Ok, Err, nat_lt, nat_le, ◌&&◌, if◌then◌else◌, refl, sym, subst, ap, ◌∙◌, rules, arith}
use Rattle.std.proofs.lemmas.Bool.Decides.{nat_tests}
use Rattle.std.proofs.lemmas.Str.Parse.{IsNumeralModel, numerals_by_value, tells_all_ascii_digits}
use Rattle.std.specs.Str.{all_ascii_digits}
use Rattle.std.specs.Str.Parse.{ParsesUnsigned, without_leading_plus, digits_value}
use Rattle.mars_base.proofs.Deciding.{both, joined}
use Rattle.mars_script.specs.Written.{number_up_to}

own : IsNumeralModel (λ ds. all_ascii_digits ds ≡ true) (digits_value 10)
own = numerals_by_value (λ ds. all_ascii_digits ds ≡ true) tells_all_ascii_digits

abbrev test : ℕ → List ℕ → Bool
test most ds = nat_lt 0 (length ds) && (all_ascii_digits ds && nat_le (digits_value 10 ds) most)

passes : (most : ℕ) (ds : List ℕ) → 0 < length ds → all_ascii_digits ds ≡ true → digits_value 10 ds ≤ most → test most ds ≡ true
passes most ds some digits bound =
    let first : nat_lt 0 (length ds) ≡ true = grind (arith, nat_tests) in
    let last : nat_le (digits_value 10 ds) most ≡ true = grind (arith, nat_tests) in
    joined _ _ first (joined _ _ digits last)

passed : (most : ℕ) (ds : List ℕ) → test most ds ≡ true → (0 < length ds) × ((all_ascii_digits ds ≡ true) × (digits_value 10 ds ≤ most))
passed most ds e =
    let first = both (nat_lt 0 (length ds)) _ e in
    let rest = both (all_ascii_digits ds) _ first.1 in
    let some : nat_lt 0 (length ds) ≡ true = first.0 in
    let bound : nat_le (digits_value 10 ds) most ≡ true = rest.1 in
    (grind (arith, nat_tests), (rest.0, grind (arith, nat_tests)))

chosen : (b : Bool) (n : ℕ) → b ≡ true → Some n ≡ (if b then Some n else None)
chosen b n e = rw e refl

dropped : (b : Bool) (n : ℕ) → (b ≡ true → ⊥) → None ≡ (if b then Some n else None)
dropped true n h = absurd (h refl)
dropped false n h = refl

-- a number that was read, and isn't too great
pub number_read : {E : Type 0} (most n : ℕ) (text : List ℕ) (r : Result ℕ E) → ParsesUnsigned 64 10 text r → r ≡ Ok n → n ≤ most → Some n ≡ number_up_to most text
number_read {E = E} most n text r parsed e bound = of_Ok (subst (λ (s : Result ℕ E). ParsesUnsigned 64 10 text s) e parsed)
  where
    of_Ok : ParsesUnsigned {E = E} 64 10 text (Ok n) → Some n ≡ number_up_to most text
    of_Ok p =
        let ds = without_leading_plus text in
        let small : digits_value 10 ds ≤ most = subst (λ (k : ℕ). k ≤ most) p.1 bound in
        ap Some p.1 ∙ chosen (test most ds) (digits_value 10 ds) (passes most ds p.0.0.0 (own.from ds p.0.0.1) small)

-- no number that fits 64 bits
pub number_unread : {E : Type 0} (most : ℕ) (text : List ℕ) (r : Result ℕ E) (error : E) → ParsesUnsigned 64 10 text r → r ≡ Err error → most < 2 ^ 64 →
    None ≡ number_up_to most text
number_unread {E = E} most text r error parsed e fits = of_Err (subst (λ (s : Result ℕ E). ParsesUnsigned 64 10 text s) e parsed)
  where
    of_Err : ParsesUnsigned {E = E} 64 10 text (Err error) → None ≡ number_up_to most text
    of_Err p =
        let ds = without_leading_plus text in
        dropped (test most ds) (digits_value 10 ds) (λ t.
        let q = passed most ds t in
        let bound : digits_value 10 ds ≤ most = q.1.1 in
        p ((q.0, own.to ds q.1.0), omega (arith, bound, fits)))

of_test : (b : Bool) (n k : ℕ) → (if b then Some n else None) ≡ Some k → b ≡ true
of_test true n k e = refl
of_test false n k e = cc

-- a number has digits alone, after a plus or not
pub number_digits : (most number : ℕ) (text : List ℕ) → number_up_to most text ≡ Some number → all_ascii_digits (without_leading_plus text) ≡ true
number_digits most number text e =
    let ds = without_leading_plus text in
    let t : test most ds ≡ true = of_test (test most ds) (digits_value 10 ds) number e in
    (passed most ds t).1.0

minus_first : (most number : ℕ) (bytes : List ℕ) → number_up_to most (45 ∷ bytes) ≡ Some number → ⊥
minus_first most number bytes e =
    let digits : all_ascii_digits (45 ∷ bytes) ≡ true = number_digits most number (45 ∷ bytes) e in
    let no : false ≡ true = digits in
    cc

-- a number doesn't begin with a minus
pub no_minus : (most number byte : ℕ) (bytes : List ℕ) → number_up_to most (byte ∷ bytes) ≡ Some number → byte ≡ 45 → ⊥
no_minus most number byte bytes e is = minus_first most number bytes (subst (λ (b : ℕ). number_up_to most (b ∷ bytes) ≡ Some number) is e)
