-- The first piece of bytes by its first byte, as the code finds it.
use Rattle.std.specs.Prelude.{ℕ, ◌+◌, List, [], ◌∷◌, take, Bool, true, false, Option, Some, None, option_map, ◌==◌, if◌then◌else◌}
use Rattle.std.specs.List.{prefix_len}
use Rattle.mars_forms.specs.declared.lexeme.TokenKind.{TokenKind}
use Rattle.mars_forms.specs.declared.lexeme.TokenKind.TheVariants as kind
use Rattle.mars_tokens.specs.declared.bytes.ByteClass.{ByteClass}
use Rattle.mars_tokens.specs.declared.bytes.ByteClass.TheVariants as class
use Rattle.mars_tokens.specs.declared.pieces.Piece.{Piece}
use Rattle.mars_tokens.specs.declared.pieces.Piece.TheVariants as piece
use Rattle.mars_tokens.specs.Bytes.{is_letter_byte, is_digit_byte, is_word_byte, is_blank_byte, is_comment_byte, is_plain_byte, is_escaped_byte}
use Rattle.mars_tokens.specs.Words.{word_kind}

-- the sign that a byte is
abbrev pub sign_kind : ℕ → Option TokenKind
sign_kind b =
    if b == 40 then Some kind.Open else
    (if b == 41 then Some kind.Close else
    (if b == 60 then Some kind.Less else
    (if b == 62 then Some kind.Greater else
    (if b == 44 then Some kind.Comma else
    (if b == 46 then Some kind.Dot else
    (if b == 59 then Some kind.Semicolon else
    (if b == 47 then Some kind.Slash else
    (if b == 61 then Some kind.Equals else
    (if b == 35 then Some kind.Hash else None)))))))))

-- the class of a byte that may be a sign
abbrev pub sign_class : Option TokenKind → ByteClass
sign_class None = class.Other
sign_class (Some k) = class.Sign k

-- the class of a byte that is no letter, digit or blank
abbrev pub other_class : ℕ → ByteClass
other_class b = if b == 37 then class.Percent else (if b == 95 then class.Underscore else (if b == 45 then class.Dash else (if b == 34 then class.Quote else sign_class (sign_kind b))))

-- the class of a byte
abbrev pub byte_class : ℕ → ByteClass
byte_class b = if is_letter_byte b then class.Letter else (if is_digit_byte b then class.Digit else (if is_blank_byte b then class.Blank else other_class b))

-- a token of one byte and the digits after it, if there are any
abbrev pub digits_after : TokenKind → List ℕ → Option (Piece × ℕ)
digits_after k rest = if prefix_len is_digit_byte rest == 0 then None else Some (piece.Token k, prefix_len is_digit_byte rest + 1)

-- an arrow or a negative integer, by what is after the dash
abbrev pub after_dash : List ℕ → Option (Piece × ℕ)
after_dash [] = None
after_dash (next ∷ rest) = if next == 62 then Some (piece.Token kind.Arrow, 2) else digits_after kind.Integer (next ∷ rest)

-- the place of the quote that closes a string, by what is after the one that opens it, of which so many bytes have been read;
-- the Bool: a backslash came just before
abbrev pub closing_place : ℕ → Bool → List ℕ → Option ℕ
closing_place n escaped [] = None
closing_place n true (b ∷ rest) = if is_escaped_byte b then closing_place (n + 1) false rest else None
closing_place n false (b ∷ rest) = if b == 34 then Some n else
    (if b == 92 then closing_place (n + 1) true rest else
    (if is_plain_byte b then closing_place (n + 1) false rest else None))

-- a string, by what is after its first quote
abbrev pub after_quote : Bool → List ℕ → Option (Piece × ℕ)
after_quote false rest = None
after_quote true rest = option_map (λ n. (piece.Token kind.Text, n + 2)) (closing_place 0 false rest)

-- the piece that a byte of this class begins, and how many bytes it has
abbrev pub piece_by : Bool → ByteClass → ℕ → List ℕ → Option (Piece × ℕ)
piece_by two class.Letter b rest = Some (piece.Token (word_kind (take (prefix_len is_word_byte rest + 1) (b ∷ rest))), prefix_len is_word_byte rest + 1)
piece_by two class.Digit b rest = Some (piece.Token kind.Integer, prefix_len is_digit_byte rest + 1)
piece_by two class.Blank b rest = Some (piece.Between, prefix_len is_blank_byte rest + 1)
piece_by two class.Percent b rest = Some (piece.Between, prefix_len is_comment_byte rest + 1)
piece_by two class.Underscore b rest = digits_after kind.Placed rest
piece_by two class.Dash b rest = after_dash rest
piece_by two class.Quote b rest = after_quote two rest
piece_by two (class.Sign k) b rest = Some (piece.Token k, 1)
piece_by two class.Other b rest = None

-- the first piece, and how many bytes it has
abbrev pub first_of : Bool → List ℕ → Option (Piece × ℕ)
first_of two [] = None
first_of two (b ∷ rest) = piece_by two (byte_class b) b rest
