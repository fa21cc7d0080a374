-- A text has a list of tokens.
use Rattle.std.proofs.Common.{◌≡◌, ℕ, suc, zero, ◌+◌, ◌<◌, List, [], ◌∷◌, length, take, drop, refl, Bool, arith, Option, Some, None, length-drop}
use Rattle.mars_forms.specs.declared.lexeme.TokenKind.{TokenKind}
use Rattle.mars_forms.specs.declared.lexeme.Lexeme.{Lexeme}
use Rattle.mars_tokens.specs.declared.pieces.Piece.{Piece}
use Rattle.mars_tokens.specs.declared.pieces.Piece.TheVariants as piece
use Rattle.mars_tokens.specs.declared.lexer.TokenRefusal.{TokenRefusal}
use Rattle.mars_tokens.specs.declared.lexer.TokenRefusal.TheVariants as refusal
use Rattle.mars_tokens.specs.Refusals.{over_limit, depth_after}
use Rattle.mars_tokens.specs.Tokens.{TokensFrom, ended, bad, SomeTokenListEach, lexeme_at, refused_at}
use Rattle.mars_tokens.specs.PiecesInside.{first_of}
use Rattle.mars_tokens.proofs.Firsts.{IsFirst, first-is, first-none}
use Rattle.mars_tokens.proofs.Reading.{skip-tokens, take-tokens, over-tokens}

record Tells (two : Bool) (at depth : ℕ) (bytes : List ℕ) : Type 0 where
  pub lexemes : List Lexeme
  pub refused : Option TokenRefusal
  pub tokens : TokensFrom two at depth bytes lexemes refused

record Shorter (m : ℕ) : Type 0 where
  pub each : (two : Bool) (at depth : ℕ) (bytes : List ℕ) → length bytes < m → Tells two at depth bytes

none-tells : (two : Bool) (at depth : ℕ) (bytes : List ℕ) → first_of two bytes ≡ None → Tells two at depth bytes
none-tells two at depth [] e = record { lexemes = []; refused = None; tokens = ended at depth }
none-tells two at depth (b ∷ rest) e = record { lexemes = refused_at at ∷ []; refused = Some refusal.BadByte; tokens = bad at depth (b ∷ rest) (λ same. cc) (first-none two (b ∷ rest) e) }

token-tells : (two : Bool) (at depth n : ℕ) (k : TokenKind) (bytes : List ℕ) (o : Option TokenRefusal) → over_limit depth k (take n bytes) ≡ o → first_of two bytes ≡ Some (piece.Token k, n) → Tells two (at + n) (depth_after depth k) (drop n bytes) → Tells two at depth bytes
token-tells two at depth n k bytes None w e t = record { lexemes = lexeme_at k at (at + n) ∷ t.lexemes; refused = t.refused; tokens = take-tokens two at depth n bytes k t.lexemes t.refused e w t.tokens }
token-tells two at depth n k bytes (Some r) w e t = record { lexemes = refused_at at ∷ []; refused = Some r; tokens = over-tokens two at depth n bytes k r e w }

piece-tells : (two : Bool) (at depth n : ℕ) (p : Piece) (bytes : List ℕ) → Shorter (length bytes) → length (drop n bytes) < length bytes → first_of two bytes ≡ Some (p, n) → Tells two at depth bytes
piece-tells two at depth n piece.Between bytes shorter less e =
    let t = shorter.each two (at + n) depth (drop n bytes) less in
    record { lexemes = t.lexemes; refused = t.refused; tokens = skip-tokens two at depth n bytes t.lexemes t.refused e t.tokens }
piece-tells two at depth n (piece.Token k) bytes shorter less e =
    token-tells two at depth n k bytes (over_limit depth k (take n bytes)) refl e (shorter.each two (at + n) (depth_after depth k) (drop n bytes) less)

first-tells : (two : Bool) (at depth : ℕ) (bytes : List ℕ) (o : Option (Piece × ℕ)) → first_of two bytes ≡ o → Shorter (length bytes) → Tells two at depth bytes
first-tells two at depth bytes None e shorter = none-tells two at depth bytes e
first-tells two at depth bytes (Some f) e shorter =
    let first : IsFirst two bytes f.0 f.1 = first-is two bytes f.0 f.1 e in
    piece-tells two at depth f.1 f.0 bytes shorter (omega (arith, first.within, first.some, length-drop f.1 bytes)) e

shorter : (m : ℕ) → Shorter m
shorter zero = record { each = λ two at depth bytes less. absurd (omega arith) }
shorter (suc m) = record { each = λ two at depth bytes less. here m (shorter m) two at depth bytes less }
  where
    here : (m : ℕ) → Shorter m → (two : Bool) (at depth : ℕ) (bytes : List ℕ) → length bytes < suc m → Tells two at depth bytes
    here m ih two at depth bytes less = first-tells two at depth bytes (first_of two bytes) refl (record { each = λ w a d l fewer. ih.each w a d l (omega arith) })

pub some-list : SomeTokenListEach
some-list two bytes =
    let t = (shorter (suc (length bytes))).each two 0 0 bytes (omega arith) in
    record { lexemes = t.lexemes; refusal = t.refused; tokens = t.tokens }
