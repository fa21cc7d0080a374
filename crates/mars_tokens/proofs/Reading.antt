-- The tokens before a place: whatever comes after them, they and it are the text's.
use Rattle.std.proofs.Common.{◌≡◌, ◌≢◌, ℕ, suc, zero, ◌+◌, ◌≤◌, ◌<◌, List, [], ◌∷◌, ◌++◌, length, take, drop, refl, ap, sym, subst, Bool, arith, Option, Some, None, append_assoc, append-nil, length-take-le, take-append-drop, length-drop}
use Rattle.std.proofs.lemmas.List.{drop-drop}
use Rattle.mars_forms.specs.declared.lexeme.TokenKind.{TokenKind}
use Rattle.mars_forms.specs.declared.lexeme.TokenKind.TheVariants as kind
use Rattle.mars_forms.specs.declared.lexeme.Lexeme.{Lexeme}
use Rattle.mars_tokens.specs.declared.pieces.Piece.{Piece}
use Rattle.mars_tokens.specs.declared.pieces.Piece.TheVariants as piece
use Rattle.mars_tokens.specs.declared.lexer.TokenRefusal.{TokenRefusal}
use Rattle.mars_tokens.specs.declared.lexer.TokenRefusal.TheVariants as refusal
use Rattle.mars_tokens.specs.Refusals.{over_limit, depth_after}
use Rattle.mars_tokens.specs.Tokens.{TokensFrom, ended, skipped, taken, over, bad, IsTokenList, lexeme_at, refused_at}
use Rattle.mars_tokens.specs.PiecesInside.{first_of}
use Rattle.mars_tokens.proofs.Firsts.{IsFirst, first-is, first-none}

pub record ReadTo (two : Bool) (bytes : List ℕ) (lexemes : List Lexeme) (at depth : ℕ) : Type 0 where
  pub at_in : at ≤ length bytes
  pub depth_in : depth ≤ at
  pub each : (others : List Lexeme) (r : Option TokenRefusal) → TokensFrom two at depth (drop at bytes) others r → IsTokenList two bytes (lexemes ++ others) r

pub read-none : (two : Bool) (bytes : List ℕ) → ReadTo two bytes [] 0 0
read-none two bytes = record { at_in = omega arith; depth_in = omega arith; each = λ others r t. t }

-- a piece further on
pub first-within : (two : Bool) (bytes : List ℕ) (at n : ℕ) (p : Piece) → at ≤ length bytes → first_of two (drop at bytes) ≡ Some (p, n) → (0 < n) × (at + n ≤ length bytes)
first-within two bytes at n p fits e =
    let first : IsFirst two (drop at bytes) p n = first-is two (drop at bytes) p n e in
    (first.some, omega (arith, first.within, length-drop at bytes, fits))

pub skip-tokens : (two : Bool) (at depth n : ℕ) (bytes : List ℕ) (others : List Lexeme) (r : Option TokenRefusal) → first_of two bytes ≡ Some (piece.Between, n) → TokensFrom two (at + n) depth (drop n bytes) others r → TokensFrom two at depth bytes others r
skip-tokens two at depth n bytes others r e t =
    let first : IsFirst two bytes piece.Between n = first-is two bytes piece.Between n e in
    let size : length (take n bytes) ≡ n = length-take-le n bytes first.within in
    subst (λ (l : List ℕ). TokensFrom two at depth l others r) (take-append-drop n bytes)
    (skipped at depth (take n bytes) (drop n bytes) others r first.piece first.longest (subst (λ (k : ℕ). TokensFrom two (at + k) depth (drop n bytes) others r) (sym size) t))

pub take-tokens : (two : Bool) (at depth n : ℕ) (bytes : List ℕ) (k : TokenKind) (others : List Lexeme) (r : Option TokenRefusal) → first_of two bytes ≡ Some (piece.Token k, n) → over_limit depth k (take n bytes) ≡ None
    → TokensFrom two (at + n) (depth_after depth k) (drop n bytes) others r → TokensFrom two at depth bytes (lexeme_at k at (at + n) ∷ others) r
take-tokens two at depth n bytes k others r e within t =
    let first : IsFirst two bytes (piece.Token k) n = first-is two bytes (piece.Token k) n e in
    let size : length (take n bytes) ≡ n = length-take-le n bytes first.within in
    subst (λ (l : List ℕ). TokensFrom two at depth l (lexeme_at k at (at + n) ∷ others) r) (take-append-drop n bytes)
    (subst (λ (m : ℕ). TokensFrom two at depth (take n bytes ++ drop n bytes) (lexeme_at k at (at + m) ∷ others) r) size
    (taken at depth (take n bytes) (drop n bytes) k others r first.piece first.longest within (subst (λ (m : ℕ). TokensFrom two (at + m) (depth_after depth k) (drop n bytes) others r) (sym size) t)))

pub over-tokens : (two : Bool) (at depth n : ℕ) (bytes : List ℕ) (k : TokenKind) (r : TokenRefusal) → first_of two bytes ≡ Some (piece.Token k, n) → over_limit depth k (take n bytes) ≡ Some r → TokensFrom two at depth bytes (refused_at at ∷ []) (Some r)
over-tokens two at depth n bytes k r e far =
    let first : IsFirst two bytes (piece.Token k) n = first-is two bytes (piece.Token k) n e in
    subst (λ (l : List ℕ). TokensFrom two at depth l (refused_at at ∷ []) (Some r)) (take-append-drop n bytes) (over at depth (take n bytes) (drop n bytes) k r first.piece first.longest far)

pub read-skip : (two : Bool) (bytes : List ℕ) (lexemes : List Lexeme) (at depth n : ℕ) → ReadTo two bytes lexemes at depth → first_of two (drop at bytes) ≡ Some (piece.Between, n) → ReadTo two bytes lexemes (at + n) depth
read-skip two bytes lexemes at depth n so_far e =
    let in_text = first-within two bytes at n piece.Between so_far.at_in e in
    record {
      at_in = in_text.1;
      depth_in = omega (arith, so_far.depth_in);
      each = λ others r t. so_far.each others r (skip-tokens two at depth n (drop at bytes) others r e (subst (λ (l : List ℕ). TokensFrom two (at + n) depth l others r) (sym (drop-drop n at bytes)) t));
    }

depth-step : (depth : ℕ) (k : TokenKind) → depth_after depth k ≤ depth + 1
depth-step depth kind.Open = omega arith
depth-step depth kind.Less = omega arith
depth-step depth kind.Close = omega arith
depth-step depth kind.Greater = omega arith
depth-step depth _ = omega arith

pub read-take : (two : Bool) (bytes : List ℕ) (lexemes : List Lexeme) (at depth n : ℕ) (k : TokenKind) → ReadTo two bytes lexemes at depth → first_of two (drop at bytes) ≡ Some (piece.Token k, n) → over_limit depth k (take n (drop at bytes)) ≡ None
    → ReadTo two bytes (lexemes ++ lexeme_at k at (at + n) ∷ []) (at + n) (depth_after depth k)
read-take two bytes lexemes at depth n k so_far e within =
    let in_text = first-within two bytes at n (piece.Token k) so_far.at_in e in
    record {
      at_in = in_text.1;
      depth_in = omega (arith, so_far.depth_in, in_text.0, depth-step depth k);
      each = λ others r t. subst (λ (l : List Lexeme). IsTokenList two bytes l r) (sym (append_assoc lexemes (lexeme_at k at (at + n) ∷ []) others))
          (so_far.each (lexeme_at k at (at + n) ∷ others) r
          (take-tokens two at depth n (drop at bytes) k others r e within (subst (λ (l : List ℕ). TokensFrom two (at + n) (depth_after depth k) l others r) (sym (drop-drop n at bytes)) t)));
    }

pub read-over : (two : Bool) (bytes : List ℕ) (lexemes : List Lexeme) (at depth n : ℕ) (k : TokenKind) (r : TokenRefusal) → ReadTo two bytes lexemes at depth → first_of two (drop at bytes) ≡ Some (piece.Token k, n) → over_limit depth k (take n (drop at bytes)) ≡ Some r
    → IsTokenList two bytes (lexemes ++ refused_at at ∷ []) (Some r)
read-over two bytes lexemes at depth n k r so_far e far = so_far.each (refused_at at ∷ []) (Some r) (over-tokens two at depth n (drop at bytes) k r e far)

drop-some : (at : ℕ) (bytes : List ℕ) → at < length bytes → drop at bytes ≢ []
drop-some at bytes less e = let none : length (drop at bytes) ≡ 0 = ap (λ (l : List ℕ). length l) e in omega (arith, length-drop at bytes)

pub read-bad : (two : Bool) (bytes : List ℕ) (lexemes : List Lexeme) (at depth : ℕ) → ReadTo two bytes lexemes at depth → at < length bytes → first_of two (drop at bytes) ≡ None → IsTokenList two bytes (lexemes ++ refused_at at ∷ []) (Some refusal.BadByte)
read-bad two bytes lexemes at depth so_far less e = so_far.each (refused_at at ∷ []) (Some refusal.BadByte) (bad at depth (drop at bytes) (drop-some at bytes less) (first-none two (drop at bytes) e))

pub drop-past : (at : ℕ) (bytes : List ℕ) → length bytes ≤ at → drop at bytes ≡ []
drop-past zero [] le = refl
drop-past (suc at) [] le = refl
drop-past zero (b ∷ bytes) le = absurd (omega arith)
drop-past (suc at) (b ∷ bytes) le = drop-past at bytes (omega arith)

pub read-end : (two : Bool) (bytes : List ℕ) (lexemes : List Lexeme) (at depth : ℕ) → ReadTo two bytes lexemes at depth → length bytes ≤ at → IsTokenList two bytes lexemes None
read-end two bytes lexemes at depth so_far le =
    subst (λ (l : List Lexeme). IsTokenList two bytes l None) (append-nil lexemes)
    (so_far.each [] None (subst (λ (l : List ℕ). TokensFrom two at depth l [] None) (sym (drop-past at bytes le)) (ended at depth)))

pub list-told : (two : Bool) (bytes : List ℕ) (xs ys : List Lexeme) (r s : Option TokenRefusal) → xs ≡ ys → r ≡ s → IsTokenList two bytes ys s → IsTokenList two bytes xs r
list-told two bytes xs ys r s same alike t = subst (λ (l : List Lexeme). IsTokenList two bytes l r) (sym same) (subst (λ (q : Option TokenRefusal). IsTokenList two bytes ys q) (sym alike) t)
