-- The pieces of a text: blanks, comments, and the tokens of each kind. Which of them comes next is the longest.
use Rattle.std.specs.Prelude.{◌≡◌, ℕ, ◌≤◌, List, [], ◌∷◌, ◌++◌, length, Bool, true}
use Rattle.std.specs.List.{list_all}
use Rattle.mars_forms.specs.declared.lexeme.TokenKind.TheVariants as kind
use Rattle.mars_tokens.specs.declared.pieces.Piece.{Piece}
use Rattle.mars_tokens.specs.declared.pieces.Piece.TheVariants as piece
use Rattle.mars_tokens.specs.Bytes.{is_letter_byte, is_word_byte, is_blank_byte, is_comment_byte}
use Rattle.mars_tokens.specs.Words.{word_kind}
use Rattle.mars_tokens.specs.Strings.{IsStringBody}
use Rattle.mars_tokens.specs.Integers.{are_digits}

-- The bytes are this piece, in version 2 or in version 1. A row a form; a number is a byte.
pub data IsPiece (two : Bool) : List ℕ → Piece → Type 0 where
  -- one blank or more
  blanks : (b : ℕ) (rest : List ℕ) → is_blank_byte b ≡ true → list_all is_blank_byte rest ≡ true → IsPiece two (b ∷ rest) piece.Between
  -- `%`, and bytes other than a line feed
  comment : (inside : List ℕ) → list_all is_comment_byte inside ≡ true → IsPiece two (37 ∷ inside) piece.Between
  -- a letter, then letters, digits, `_` and `'`
  word : (b : ℕ) (rest : List ℕ) → is_letter_byte b ≡ true → list_all is_word_byte rest ≡ true → IsPiece two (b ∷ rest) (piece.Token (word_kind (b ∷ rest)))
  -- `_` and digits
  placed : (digits : List ℕ) → are_digits digits ≡ true → IsPiece two (95 ∷ digits) (piece.Token kind.Placed)
  -- digits, or `-` directly followed by digits
  integer : (d : ℕ) (rest : List ℕ) → are_digits (d ∷ rest) ≡ true → IsPiece two (d ∷ rest) (piece.Token kind.Integer)
  negative : (digits : List ℕ) → are_digits digits ≡ true → IsPiece two (45 ∷ digits) (piece.Token kind.Integer)
  -- in version 2 alone: a string between its quotes
  quoted : (body : List ℕ) → two ≡ true → IsStringBody body → IsPiece two (34 ∷ (body ++ 34 ∷ [])) (piece.Token kind.Text)
  -- ->
  arrow : IsPiece two (45 ∷ 62 ∷ []) (piece.Token kind.Arrow)
  -- ( ) < > , . ; / = #
  round : IsPiece two (40 ∷ []) (piece.Token kind.Open)
  round_end : IsPiece two (41 ∷ []) (piece.Token kind.Close)
  less : IsPiece two (60 ∷ []) (piece.Token kind.Less)
  greater : IsPiece two (62 ∷ []) (piece.Token kind.Greater)
  comma : IsPiece two (44 ∷ []) (piece.Token kind.Comma)
  dot : IsPiece two (46 ∷ []) (piece.Token kind.Dot)
  semicolon : IsPiece two (59 ∷ []) (piece.Token kind.Semicolon)
  slash : IsPiece two (47 ∷ []) (piece.Token kind.Slash)
  equals : IsPiece two (61 ∷ []) (piece.Token kind.Equals)
  hash : IsPiece two (35 ∷ []) (piece.Token kind.Hash)

-- no longer beginning of the text and the rest is a piece
abbrev pub IsLongestPiece : Bool → List ℕ → List ℕ → Type 0
IsLongestPiece two text rest = (front back : List ℕ) (p : Piece) → front ++ back ≡ text ++ rest → IsPiece two front p → length front ≤ length text

-- no piece begins the bytes
abbrev pub BeginsNoPiece : Bool → List ℕ → Type 0
BeginsNoPiece two bytes = (front back : List ℕ) (p : Piece) → front ++ back ≡ bytes → IsPiece two front p → ⊥
