-- Bits of pairs: two pairs have one bit only where they are the same.
use Rattle.std.proofs.Common.{◌≡◌, ℕ, ◌+◌, ◌-◌, ◌*◌, ◌/◌, ◌%◌, ◌^◌, ◌<◌, Bool, true, false, nat_eq, ◌||◌, ◌⊎◌, inl, inr, bit_or, Some, None, Result, Ok, Err, OnOk, sym, ap, ap₂, ◌∙◌, arith, w64}
use Rattle.std.specs.Int.{bit_at}
use Rattle.std.specs.Int.Bits.{or_zero_l}
use Rattle.std.specs.HashMap.{get, Updates}
use Rattle.std.specs.Option.{unwrap_or}
use Rattle.std.proofs.lemmas.Bool.{cases_Bool, cases_eq, false≢true}
use Rattle.std.proofs.lemmas.Nat.Bits.{bit_at_set_same, bit_at_set_other}
use Rattle.mars_base.specs.declared.no_memory.NoMemory.{NoMemory}
use Rattle.mars_unify.specs.MetInside.{same_pair, Words, IsPair, block_of, word_of, SetsBit, is_set}
use Rattle.mars_unify.proofs.Lists.{same_pair-refl, same_pair-true}

-- pairs with one block and one place there are the same
pub one-bit : (p q : ℕ × ℕ) → IsPair p → IsPair q → block_of p ≡ block_of q → p.0 % 64 ≡ q.0 % 64 → p ≡ q
one-bit p q hp hq e k =
    let diagonal : (p.1 + (2 ^ 64 - p.0)) % 2 ^ 64 ≡ (q.1 + (2 ^ 64 - q.0)) % 2 ^ 64 = ap (λ b. b.0) e in
    let row : p.0 / 64 ≡ q.0 / 64 = ap (λ b. b.1) e in
    let left : p.0 ≡ q.0 = omega (arith, row, k) in
    let right : p.1 ≡ q.1 = omega (arith, left, diagonal, hp.0, hp.1, hq.0, hq.1) in
    ap₂ (λ a b. (a, b)) left right

-- a block's first bit
pub first-bit : (old new : Words) (block : ℕ × ℕ) (place : ℕ) → get same_pair old block ≡ None → Updates same_pair old new block (Some (1 * 2 ^ place % 2 ^ 64))
    → SetsBit old new block place
first-bit old new block place none step = record {
  here = ap (λ v. unwrap_or v 0) step.1 ∙ sym (ap (λ v. bit_or (unwrap_or v 0) (1 * 2 ^ place % 2 ^ 64)) none ∙ or_zero_l (1 * 2 ^ place % 2 ^ 64));
  elsewhere = λ other apart. ap (λ v. unwrap_or v 0) (step.2 other apart);
}

-- the bits that are set once a pair's is
bit-written : (old new : Words) (pair : ℕ × ℕ) → IsPair pair → SetsBit old new (block_of pair) (pair.0 % 64)
    → (other : ℕ × ℕ) → IsPair other → is_set new other ≡ (same_pair other pair || is_set old other)
bit-written old new pair h step other ho = go (cases_Bool (same_pair (block_of pair) (block_of other))) (cases_eq (other.0 % 64) (pair.0 % 64))
  where
    place : pair.0 % 64 < 64
    place = omega arith

    -- another pair than one at this place
    other-pair : (same_pair other pair ≡ true → ⊥) → same_pair other pair ≡ false
    other-pair ne = elim (cases_Bool (same_pair other pair)) [
      | inl same ↦ absurd (ne same)
      | inr other ↦ other
    ]

    in-block : same_pair (block_of pair) (block_of other) ≡ true → is_set new other ≡ nat_eq (bit_at (word_of new (block_of pair)) (other.0 % 64)) 1
    in-block there = ap (λ b. nat_eq (bit_at (word_of new b) (other.0 % 64)) 1) (sym (same_pair-true _ _ there))

    go : (same_pair (block_of pair) (block_of other) ≡ true) ⊎ (same_pair (block_of pair) (block_of other) ≡ false)
        → (other.0 % 64 ≡ pair.0 % 64) ⊎ (other.0 % 64 ≡ pair.0 % 64 → ⊥) → is_set new other ≡ (same_pair other pair || is_set old other)
    go (inr apart) at =
        let ne = other-pair (λ e. false≢true (sym apart ∙ ap (λ q. same_pair (block_of pair) (block_of q)) (same_pair-true other pair e) ∙ same_pair-refl (block_of pair))) in
        ap (λ w. nat_eq (bit_at w (other.0 % 64)) 1) (step.elsewhere (block_of other) apart) ∙ ap (λ b. b || is_set old other) (sym ne)
    go (inl there) (inl e) =
        let same : other ≡ pair = one-bit other pair ho h (sym (same_pair-true _ _ there)) e in
        let yes : same_pair other pair ≡ true = ap (λ q. same_pair q pair) same ∙ same_pair-refl pair in
        in-block there
        ∙ ap (λ w. nat_eq (bit_at w (other.0 % 64)) 1) step.here
        ∙ ap (λ k. nat_eq (bit_at (bit_or (word_of old (block_of pair)) (1 * 2 ^ (pair.0 % 64) % 2 ^ 64)) k) 1) e
        ∙ ap (λ b. nat_eq b 1) (bit_at_set_same w64 (word_of old (block_of pair)) (pair.0 % 64) place)
        ∙ ap (λ b. b || is_set old other) (sym yes)
    go (inl there) (inr ne) =
        let no = other-pair (λ e. ne (ap (λ q. q.0 % 64) (same_pair-true other pair e))) in
        in-block there
        ∙ ap (λ w. nat_eq (bit_at w (other.0 % 64)) 1) step.here
        ∙ ap (λ b. nat_eq b 1) (bit_at_set_other w64 (word_of old (block_of pair)) (pair.0 % 64) place (other.0 % 64) ne)
        ∙ ap (λ b. nat_eq (bit_at (word_of old b) (other.0 % 64)) 1) (same_pair-true _ _ there)
        ∙ ap (λ b. b || is_set old other) (sym no)

pub bits-written : (old new : Words) (pair : ℕ × ℕ) (result : Result Bool NoMemory) → IsPair pair → OnOk result (SetsBit old new (block_of pair) (pair.0 % 64))
    → OnOk result ((other : ℕ × ℕ) → IsPair other → is_set new other ≡ (same_pair other pair || is_set old other))
bits-written old new pair (Ok b) h step = bit-written old new pair h step
bits-written old new pair (Err e) h step = tt
