-- The tokens of a text with their places, up to its end or to the first refusal that looks at tokens alone.
use Rattle.std.specs.Prelude.{◌≡◌, ◌≢◌, ℕ, ◌+◌, ◌-◌, List, [], ◌∷◌, ◌++◌, length, take, drop, Bool, true, false, Option, Some, None}
use Rattle.mars_forms.specs.declared.lexeme.TokenKind.{TokenKind}
use Rattle.mars_forms.specs.declared.lexeme.TokenKind.TheVariants as kind
use Rattle.mars_forms.specs.declared.lexeme.Lexeme.{Lexeme}
use Rattle.mars_tokens.specs.declared.pieces.Piece.TheVariants as piece
use Rattle.mars_tokens.specs.declared.lexer.TokenRefusal.{TokenRefusal}
use Rattle.mars_tokens.specs.declared.lexer.TokenRefusal.TheVariants as refusal
use Rattle.mars_tokens.specs.Pieces.{IsPiece, IsLongestPiece, BeginsNoPiece}
use Rattle.mars_tokens.specs.Refusals.{over_limit, depth_after}

-- a token with its places
abbrev pub lexeme_at : TokenKind → ℕ → ℕ → Lexeme
lexeme_at k start end = record { kind = k; start = start; end = end }

-- the last token, at the place of a refusal
abbrev pub refused_at : ℕ → Lexeme
refused_at at = lexeme_at kind.Refused at at

-- From a place on, where so many brackets are open, the bytes that are left have these tokens, and this refusal if any.
pub data TokensFrom (two : Bool) : ℕ → ℕ → List ℕ → List Lexeme → Option TokenRefusal → Type 0 where
  -- the end of the text
  ended : (at depth : ℕ) → TokensFrom two at depth [] [] None
  -- blanks or a comment, which have no meaning
  skipped : (at depth : ℕ) (text rest : List ℕ) (lexemes : List Lexeme) (r : Option TokenRefusal)
      → IsPiece two text piece.Between → IsLongestPiece two text rest → TokensFrom two (at + length text) depth rest lexemes r
      → TokensFrom two at depth (text ++ rest) lexemes r
  -- a token
  taken : (at depth : ℕ) (text rest : List ℕ) (k : TokenKind) (lexemes : List Lexeme) (r : Option TokenRefusal)
      → IsPiece two text (piece.Token k) → IsLongestPiece two text rest → over_limit depth k text ≡ None → TokensFrom two (at + length text) (depth_after depth k) rest lexemes r
      → TokensFrom two at depth (text ++ rest) (lexeme_at k at (at + length text) ∷ lexemes) r
  -- a token that is over a limit
  over : (at depth : ℕ) (text rest : List ℕ) (k : TokenKind) (r : TokenRefusal)
      → IsPiece two text (piece.Token k) → IsLongestPiece two text rest → over_limit depth k text ≡ Some r
      → TokensFrom two at depth (text ++ rest) (refused_at at ∷ []) (Some r)
  -- a byte that begins no token, blank or comment
  bad : (at depth : ℕ) (bytes : List ℕ) → bytes ≢ [] → BeginsNoPiece two bytes → TokensFrom two at depth bytes (refused_at at ∷ []) (Some refusal.BadByte)

-- the tokens of a text of version 2, or of version 1
abbrev pub IsTokenList : Bool → List ℕ → List Lexeme → Option TokenRefusal → Type 0
IsTokenList two bytes lexemes r = TokensFrom two 0 0 bytes lexemes r

-- a text has one list of tokens, and one refusal if any
pub record SameTokens (lexemes others : List Lexeme) (r s : Option TokenRefusal) : Type 0 where
  pub list : lexemes ≡ others
  pub refused : r ≡ s

-- each text has at most one
abbrev pub OneTokenListEach : Type 0
OneTokenListEach = (two : Bool) (bytes : List ℕ) (lexemes others : List Lexeme) (r s : Option TokenRefusal)
    → IsTokenList two bytes lexemes r → IsTokenList two bytes others s → SameTokens lexemes others r s

-- a text has a list of tokens
pub record HasTokens (two : Bool) (bytes : List ℕ) : Type 0 where
  pub lexemes : List Lexeme
  pub refusal : Option TokenRefusal
  pub tokens : IsTokenList two bytes lexemes refusal

-- each text has at least one
abbrev pub SomeTokenListEach : Type 0
SomeTokenListEach = (two : Bool) (bytes : List ℕ) → HasTokens two bytes

-- the word `rules2`
abbrev pub is_rules_two : TokenKind → Bool
is_rules_two kind.RulesTwo = true
is_rules_two _ = false

-- a text of these tokens is of version 2: the first of them is that word
abbrev pub begins_two : List Lexeme → Bool
begins_two [] = false
begins_two (t ∷ lexemes) = is_rules_two t.kind

-- a text is of version 2, or of version 1: so says its first token, in whichever version the tokens are read
abbrev pub IsOfVersion : Bool → List ℕ → Type 0
IsOfVersion two bytes = (either : Bool) (lexemes : List Lexeme) (r : Option TokenRefusal) → IsTokenList either bytes lexemes r → two ≡ begins_two lexemes

-- the bytes of a token
abbrev pub spelling_at : List ℕ → Lexeme → List ℕ
spelling_at bytes t = take (t.end - t.start) (drop t.start bytes)
