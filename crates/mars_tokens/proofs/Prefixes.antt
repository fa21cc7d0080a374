-- Tests that are known, and runs of bytes that pass one.
use Rattle.std.proofs.Common.{◌≡◌, ℕ, suc, ◌+◌, ◌≤◌, ◌<◌, List, [], ◌∷◌, ◌++◌, length, take, refl, Bool, true, false, cond, arith}
use Rattle.std.specs.Prelude.{◌&&◌, ◌==◌, if◌then◌else◌}
use Rattle.std.specs.List.{list_all, prefix_len}
use Rattle.std.proofs.lemmas.Bool.Decides.{nat_tests}
use Rattle.mars_tokens.specs.Bytes.{is_digit_byte}
use Rattle.mars_tokens.specs.Integers.{are_digits}

pub if-true : {A : Type 0} (v : Bool) (x y : A) → v ≡ true → (if v then x else y) ≡ x
if-true v x y e = rw e refl

pub if-false : {A : Type 0} (v : Bool) (x y : A) → v ≡ false → (if v then x else y) ≡ y
if-false v x y e = rw e refl

pub and-left : (v w : Bool) → (v && w) ≡ true → v ≡ true
and-left true w e = refl
and-left false w e = e

pub and-right : (v w : Bool) → (v && w) ≡ true → w ≡ true
and-right true w e = e
and-right false w e = absurd (let f : ◌≡◌ {A = Bool} false true = e in cc)

pub and-both : (v w : Bool) → v ≡ true → w ≡ true → (v && w) ≡ true
and-both true w e f = f
and-both false w e f = e

pub is-equal : (b n : ℕ) → (b == n) ≡ true → b ≡ n
is-equal b n e = grind (arith, nat_tests)

one-more : (n : ℕ) → 1 + n ≡ suc n
one-more n = omega arith

-- as many bytes pass, from the first on
pub prefix-all : (p : ℕ → Bool) (bytes : List ℕ) → list_all p (take (prefix_len p bytes) bytes) ≡ true
prefix-all p [] = refl
prefix-all p (b ∷ bytes) = at (p b) refl (prefix-all p bytes)
  where
    at : (v : Bool) → p b ≡ v → list_all p (take (prefix_len p bytes) bytes) ≡ true → list_all p (take (cond v (1 + prefix_len p bytes) 0) (b ∷ bytes)) ≡ true
    at true e all = rw one-more (rw e all)
    at false e all = refl

-- and no more of them do
pub prefix-longest : (p : ℕ → Bool) (front back : List ℕ) → list_all p front ≡ true → length front ≤ prefix_len p (front ++ back)
prefix-longest p [] back e = omega arith
prefix-longest p (b ∷ front) back e = at (p b) (prefix-longest p front back) e
  where
    at : (v : Bool) → (list_all p front ≡ true → length front ≤ prefix_len p (front ++ back)) → (v && list_all p front) ≡ true → length (b ∷ front) ≤ cond v (1 + prefix_len p (front ++ back)) 0
    at true fits e = let within : length front ≤ prefix_len p (front ++ back) = fits e in omega arith
    at false fits e = absurd (let f : ◌≡◌ {A = Bool} false true = e in cc)

pub digits-some : (u : List ℕ) → list_all is_digit_byte u ≡ true → 0 < length u → are_digits u ≡ true
digits-some [] e less = absurd (omega arith)
digits-some (b ∷ u) e less = e
