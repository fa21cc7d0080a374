-- The numbers that digits write, and which of them are of i64.
use Rattle.std.proofs.Common.{◌≡◌, ℕ, suc, zero, ◌+◌, ◌-◌, ◌*◌, ◌^◌, ◌≤◌, ◌<◌, List, length, get_or, take, sym, subst, true, arith, w64}
use Rattle.std.specs.Prelude.{ℤ, pos, neg_ℤ, ◌+ℤ◌, ◌-ℤ◌, FitsSigned}
use Rattle.std.specs.Char.{digit_value}
use Rattle.std.specs.Str.Parse.{digits_value}
use Rattle.std.proofs.Math.IntN.{+ℤ_idl}
use Rattle.std.proofs.lemmas.Bool.Decides.{nat_tests}
use Rattle.std.proofs.lemmas.Str.{digit_value_digit}
use Rattle.std.proofs.lemmas.Str.Parse.{digits_value-take-le}
use Rattle.std.proofs.lemmas.Int.Digits.{digits_value_more}
use Rattle.mars_tokens.specs.Bytes.{is_digit_byte}

pub digit-low : (b : ℕ) → is_digit_byte b ≡ true → 48 ≤ b
digit-low b e = grind (arith, nat_tests)

pub digit-high : (b : ℕ) → is_digit_byte b ≡ true → b ≤ 57
digit-high b e = grind (arith, nat_tests)

-- one digit more
pub number-more : (digits : List ℕ) (i n : ℕ) → i < length digits → n ≡ digits_value 10 (take i digits) → is_digit_byte (get_or digits i 0) ≡ true → digits_value 10 (take (i + 1) digits) ≡ n * 10 + (get_or digits i 0 - 48)
number-more digits i n less is digit =
    let low : 48 ≤ get_or digits i 0 = digit-low (get_or digits i 0) digit in
    let high : get_or digits i 0 ≤ 57 = digit-high (get_or digits i 0) digit in
    let value : digit_value (get_or digits i 0) + 48 ≡ get_or digits i 0 = digit_value_digit (get_or digits i 0) (low, high) in
    let step : digits_value 10 (take (i + 1) digits) ≡ digits_value 10 (take i digits) * 10 + digit_value (get_or digits i 0) = digits_value_more 10 digits i less in
    omega arith

-- what is too large already
pub number-over : (digits : List ℕ) (i n : ℕ) → i < length digits → n ≡ digits_value 10 (take i digits) → is_digit_byte (get_or digits i 0) ≡ true → 2 ^ 64 ≤ n * 10 + (get_or digits i 0 - 48) → 2 ^ 64 ≤ digits_value 10 digits
number-over digits i n less is digit far =
    let more : digits_value 10 (take (i + 1) digits) ≡ n * 10 + (get_or digits i 0 - 48) = number-more digits i n less is digit in
    let fits : digits_value 10 (take (i + 1) digits) ≤ digits_value 10 digits = digits_value-take-le 10 digits (i + 1) (omega arith) in
    omega arith

pub positive-in : (n : ℕ) → FitsSigned w64 (pos 0 +ℤ pos n) → n < 2 ^ 63
positive-in n h = let f : FitsSigned w64 (pos n) = subst (λ (z : ℤ). FitsSigned w64 z) (+ℤ_idl (pos n)) h in f.sfits

pub positive-fits : (n : ℕ) → n < 2 ^ 63 → FitsSigned w64 (pos 0 +ℤ pos n)
positive-fits n h = subst (λ (z : ℤ). FitsSigned w64 z) (sym (+ℤ_idl (pos n))) (record { sfits = h })

minus-is : (n : ℕ) → pos 0 -ℤ pos n ≡ neg_ℤ (pos n)
minus-is n = +ℤ_idl (neg_ℤ (pos n))

negative-of : (n : ℕ) → FitsSigned w64 (neg_ℤ (pos n)) → n ≤ 2 ^ 63
negative-of zero h = omega arith
negative-of (suc n) h = h.sfits

of-negative : (n : ℕ) → n ≤ 2 ^ 63 → FitsSigned w64 (neg_ℤ (pos n))
of-negative zero h = record { sfits = omega arith }
of-negative (suc n) h = record { sfits = h }

pub negative-in : (n : ℕ) → FitsSigned w64 (pos 0 -ℤ pos n) → n ≤ 2 ^ 63
negative-in n h = negative-of n (subst (λ (z : ℤ). FitsSigned w64 z) (minus-is n) h)

pub negative-fits : (n : ℕ) → n ≤ 2 ^ 63 → FitsSigned w64 (pos 0 -ℤ pos n)
negative-fits n h = subst (λ (z : ℤ). FitsSigned w64 z) (sym (minus-is n)) (of-negative n h)

pub minus-value : (n : ℕ) → pos 0 -ℤ pos n ≡ neg_ℤ (pos n)
minus-value n = minus-is n

pub plus-value : (n : ℕ) → pos 0 +ℤ pos n ≡ pos n
plus-value n = +ℤ_idl (pos n)
