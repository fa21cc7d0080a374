-- The meaning of a string, byte by byte.
use Rattle.std.proofs.Common.{◌≡◌, ◌≢◌, ℕ, suc, ◌+◌, ◌<◌, ◌≤◌, List, ◌∷◌, length, get_or, drop, refl, ap, sym, ◌∙◌, Bool, true, false, arith, add-one}
use Rattle.std.specs.Prelude.{◌==◌}
use Rattle.std.proofs.Math.Seq.{drop-cons}
use Rattle.std.proofs.lemmas.Bool.Decides.{nat_tests}
use Rattle.mars_tokens.specs.Strings.{meant, unescaped}
use Rattle.mars_tokens.proofs.Prefixes.{if-true, if-false}

not-equal : (b n : ℕ) → b ≢ n → (b == n) ≡ false
not-equal b n e = grind (arith, nat_tests)

is-equal-to : (b n : ℕ) → b ≡ n → (b == n) ≡ true
is-equal-to b n e = grind (arith, nat_tests)

pub unescaped-backslash : (bytes : List ℕ) (i : ℕ) → i < length bytes → get_or bytes i 0 ≡ 92 → unescaped false (drop i bytes) ≡ unescaped true (drop (i + 1) bytes)
unescaped-backslash bytes i less e = ap (λ (l : List ℕ). unescaped false l) (drop-cons bytes i 0 less) ∙ if-true (get_or bytes i 0 == 92) _ _ (is-equal-to (get_or bytes i 0) 92 e) ∙ ap (λ (k : ℕ). unescaped true (drop k bytes)) (sym (add-one i))

unescaped-plain : (bytes : List ℕ) (i : ℕ) → i < length bytes → get_or bytes i 0 ≢ 92 → unescaped false (drop i bytes) ≡ meant false (get_or bytes i 0) ∷ unescaped false (drop (i + 1) bytes)
unescaped-plain bytes i less e = ap (λ (l : List ℕ). unescaped false l) (drop-cons bytes i 0 less) ∙ if-false (get_or bytes i 0 == 92) _ _ (not-equal (get_or bytes i 0) 92 e) ∙ ap (λ (k : ℕ). meant false (get_or bytes i 0) ∷ unescaped false (drop k bytes)) (sym (add-one i))

unescaped-escaped : (bytes : List ℕ) (i : ℕ) → i < length bytes → unescaped true (drop i bytes) ≡ meant true (get_or bytes i 0) ∷ unescaped false (drop (i + 1) bytes)
unescaped-escaped bytes i less = ap (λ (l : List ℕ). unescaped true l) (drop-cons bytes i 0 less) ∙ ap (λ (k : ℕ). meant true (get_or bytes i 0) ∷ unescaped false (drop k bytes)) (sym (add-one i))

-- a byte that isn't a backslash, or comes after one
pub unescaped-more : (escaped : Bool) (bytes : List ℕ) (i : ℕ) → i < length bytes → (escaped ≡ false → get_or bytes i 0 ≢ 92) → unescaped escaped (drop i bytes) ≡ meant escaped (get_or bytes i 0) ∷ unescaped false (drop (i + 1) bytes)
unescaped-more true bytes i less e = unescaped-escaped bytes i less
unescaped-more false bytes i less e = unescaped-plain bytes i less (e refl)

pub meaning-step : (escaped : Bool) (bytes : List ℕ) (i n : ℕ) → i < length bytes → (escaped ≡ false → get_or bytes i 0 ≢ 92) → n ≤ i → n + length (unescaped escaped (drop i bytes)) ≡ length (unescaped false bytes)
    → (n + 1 ≤ i + 1) × (n + 1 + length (unescaped false (drop (i + 1) bytes)) ≡ length (unescaped false bytes))
meaning-step escaped bytes i n less other within so_far =
    let more : length (unescaped escaped (drop i bytes)) ≡ suc (length (unescaped false (drop (i + 1) bytes))) = ap (λ (l : List ℕ). length l) (unescaped-more escaped bytes i less other) in
    (omega (arith, within), omega (arith, more, so_far))
