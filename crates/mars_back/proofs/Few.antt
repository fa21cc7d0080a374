-- A text has at most as many tokens as bytes.
use Rattle.std.proofs.Common.{◌≡◌, ◌≢◌, ℕ, ◌+◌, ◌≤◌, List, [], ◌∷◌, ◌++◌, length, refl, arith, Bool, Option, length-append}
use Rattle.mars_forms.specs.declared.lexeme.Lexeme.{Lexeme}
use Rattle.mars_tokens.specs.declared.lexer.TokenRefusal.{TokenRefusal}
use Rattle.mars_tokens.specs.Tokens.{TokensFrom}
use Rattle.mars_tokens.specs.Tokens as tokens
use Rattle.mars_tokens.specs.declared.pieces.Piece.{Piece}
use Rattle.mars_tokens.specs.Pieces.{IsPiece, IsLongestPiece}
use Rattle.mars_tokens.specs.Refusals.{depth_after}
use Rattle.mars_tokens.proofs.Firsts.{IsFirst, first-is, first-told}

some_byte : (two : Bool) (text rest : List ℕ) (p : Piece) → IsPiece two text p → IsLongestPiece two text rest → 1 ≤ length text
some_byte two text rest p is longest = let first : IsFirst two (text ++ rest) p (length text) = first-is two (text ++ rest) p (length text) (first-told two text rest p is longest) in omega (arith, first.some)

some_bytes : (bytes : List ℕ) → bytes ≢ [] → 1 ≤ length bytes
some_bytes [] some = absurd (some refl)
some_bytes (b ∷ bytes) some = omega arith

pub tokens_within : (two : Bool) (at depth : ℕ) (bytes : List ℕ) (ts : List Lexeme) (o : Option TokenRefusal) → TokensFrom two at depth bytes ts o → length ts ≤ length bytes
tokens_within two _ _ _ _ _ (tokens.ended at depth) = omega arith
tokens_within two _ _ _ _ _ (tokens.skipped at depth text rest ts o p l t) = omega (arith, tokens_within two (at + length text) depth rest ts o t, length-append text rest)
tokens_within two _ _ _ _ _ (tokens.taken at depth text rest k ts o p l w t) =
    omega (arith, tokens_within two (at + length text) (depth_after depth k) rest ts o t, length-append text rest, some_byte two text rest _ p l)
tokens_within two _ _ _ _ _ (tokens.over at depth text rest k s p l w) = omega (arith, length-append text rest, some_byte two text rest _ p l)
tokens_within two _ _ _ _ _ (tokens.bad at depth bytes some none) = some_bytes bytes some
