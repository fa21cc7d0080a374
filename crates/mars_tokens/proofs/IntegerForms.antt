-- A token that is an integer has the text of one.
use Rattle.std.proofs.Common.{◌≡◌, ℕ, List, [], ◌∷◌, take, refl, ◌∙◌, subst, Bool, true, false, Option, Some, None, arith}
use Rattle.std.specs.Prelude.{◌&&◌, ◌==◌, unwrap_or, if◌then◌else◌}
use Rattle.std.specs.List.{list_all}
use Rattle.std.specs.Str.{bytes_eq}
use Rattle.std.proofs.lemmas.Bool.Decides.{nat_tests}
use Rattle.mars_forms.specs.declared.lexeme.TokenKind.{TokenKind}
use Rattle.mars_forms.specs.declared.lexeme.TokenKind.TheVariants as kind
use Rattle.mars_tokens.specs.declared.pieces.Piece.{Piece}
use Rattle.mars_tokens.specs.declared.pieces.Piece.TheVariants as piece
use Rattle.mars_tokens.specs.declared.words.TheConstants.{WORDS}
use Rattle.mars_tokens.specs.Bytes.{is_digit_byte}
use Rattle.mars_tokens.specs.Words.{listed_kind, constant_words, is_identifier_word, is_variable_word, spelled_kind, word_kind}
use Rattle.mars_tokens.specs.Integers.{is_integer_text, are_digits}
use Rattle.mars_tokens.specs.Pieces.{IsPiece, blanks, comment, word, placed, integer, negative, quoted, arrow, round, round_end, less, greater, comma, dot, semicolon, slash, equals, hash}
use Rattle.mars_tokens.specs.PiecesInside.{first_of}
use Rattle.mars_tokens.proofs.Prefixes.{if-false, and-left}
use Rattle.mars_tokens.proofs.Firsts.{IsFirst, first-is}

abbrev is_other : TokenKind → Bool
is_other kind.Integer = false
is_other _ = true

listed-other : (words : List (List ℕ × TokenKind)) (text : List ℕ) (k : TokenKind) → list_all (λ w. is_other w.1) words ≡ true → listed_kind words text ≡ Some k → is_other k ≡ true
listed-other [] text k all e = absurd (let g : ◌≡◌ {A = Option TokenKind} None (Some k) = e in cc)
listed-other (w ∷ words) text k all e = at (bytes_eq text w.0) (is_other w.1) refl all e (listed-other words text k)
  where
    at : (v o : Bool) → is_other w.1 ≡ o → (o && list_all (λ w. is_other w.1) words) ≡ true → (if v then Some w.1 else listed_kind words text) ≡ Some k
        → (list_all (λ w. is_other w.1) words ≡ true → listed_kind words text ≡ Some k → is_other k ≡ true) → is_other k ≡ true
    at true true t all e ih = let same : w.1 ≡ k = cc in subst (λ (k : TokenKind). is_other k ≡ true) same t
    at false true t all e ih = ih all e
    at v false t all e ih = absurd (let g : ◌≡◌ {A = Bool} false true = all in cc)

words-other : list_all (λ w. is_other w.1) (constant_words WORDS) ≡ true
words-other = refl

spelled-other : (v w : Bool) → is_other (if v then kind.Identifier else (if w then kind.Variable else kind.OddWord)) ≡ true
spelled-other true w = refl
spelled-other false true = refl
spelled-other false false = refl

word-other : (text : List ℕ) → is_other (word_kind text) ≡ true
word-other text = at (listed_kind (constant_words WORDS) text) refl
  where
    at : (o : Option TokenKind) → listed_kind (constant_words WORDS) text ≡ o → is_other (unwrap_or o (spelled_kind text)) ≡ true
    at None e = spelled-other (is_identifier_word text) (is_variable_word text)
    at (Some k) e = listed-other (constant_words WORDS) text k words-other e

abbrev KindForm : TokenKind → List ℕ → Type 0
KindForm kind.Integer text = is_integer_text text ≡ true
KindForm _ text = Unit {0}

abbrev PieceForm : Piece → List ℕ → Type 0
PieceForm piece.Between text = Unit {0}
PieceForm (piece.Token k) text = KindForm k text

other-form : (k : TokenKind) (text : List ℕ) → is_other k ≡ true → KindForm k text
other-form kind.Integer text e = absurd (let g : ◌≡◌ {A = Bool} false true = e in cc)
other-form _ text e = tt

digit-no-dash : (b : ℕ) → is_digit_byte b ≡ true → (b == 45) ≡ false
digit-no-dash b e = grind (arith, nat_tests)

piece-form : (two : Bool) (text : List ℕ) (p : Piece) → IsPiece two text p → PieceForm p text
piece-form two _ _ (word b rest e all) = other-form (word_kind (b ∷ rest)) (b ∷ rest) (word-other (b ∷ rest))
piece-form two _ _ (integer d rest e) = if-false (d == 45) (are_digits rest) (are_digits (d ∷ rest)) (digit-no-dash d (and-left (is_digit_byte d) _ e)) ∙ e
piece-form two _ _ (negative digits e) = e
piece-form two _ _ (blanks b rest e all) = tt
piece-form two _ _ (comment inside all) = tt
piece-form two _ _ (placed digits e) = tt
piece-form two _ _ (quoted body is r) = tt
piece-form two _ _ arrow = tt
piece-form two _ _ round = tt
piece-form two _ _ round_end = tt
piece-form two _ _ less = tt
piece-form two _ _ greater = tt
piece-form two _ _ comma = tt
piece-form two _ _ dot = tt
piece-form two _ _ semicolon = tt
piece-form two _ _ slash = tt
piece-form two _ _ equals = tt
piece-form two _ _ hash = tt

pub integer-first : (two : Bool) (bytes : List ℕ) (k : TokenKind) (n : ℕ) → first_of two bytes ≡ Some (piece.Token k, n) → k ≡ kind.Integer → is_integer_text (take n bytes) ≡ true
integer-first two bytes k n e is =
    let first : IsFirst two bytes (piece.Token k) n = first-is two bytes (piece.Token k) n e in
    subst (λ (q : TokenKind). KindForm q (take n bytes)) is (piece-form two (take n bytes) (piece.Token k) first.piece)
