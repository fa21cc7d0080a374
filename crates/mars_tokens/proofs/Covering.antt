-- A piece that begins bytes is no longer than the first piece by its first byte, and is that piece if it is as long.
use Rattle.std.proofs.Common.{◌≡◌, ℕ, suc, ◌+◌, ◌≤◌, List, [], ◌∷◌, ◌++◌, length, take, refl, ap, sym, ◌∙◌, subst, Bool, true, false, arith, Option, Some, None, length-append}
use Rattle.std.specs.Prelude.{◌==◌, if◌then◌else◌, option_map}
use Rattle.std.specs.List.{list_all, prefix_len}
use Rattle.std.proofs.Math.Seq.{take-append_seam}
use Rattle.std.proofs.lemmas.Bool.Decides.{nat_tests}
use Rattle.mars_forms.specs.declared.lexeme.TokenKind.{TokenKind}
use Rattle.mars_forms.specs.declared.lexeme.TokenKind.TheVariants as kind
use Rattle.mars_tokens.specs.declared.bytes.ByteClass.{ByteClass}
use Rattle.mars_tokens.specs.declared.bytes.ByteClass.TheVariants as class
use Rattle.mars_tokens.specs.declared.pieces.Piece.{Piece}
use Rattle.mars_tokens.specs.declared.pieces.Piece.TheVariants as piece
use Rattle.mars_tokens.specs.Bytes.{is_letter_byte, is_digit_byte, is_word_byte, is_blank_byte, is_comment_byte, is_plain_byte, is_escaped_byte}
use Rattle.mars_tokens.specs.Words.{word_kind}
use Rattle.mars_tokens.specs.Strings.{IsStringBody, empty, plain, escape}
use Rattle.mars_tokens.specs.Integers.{are_digits}
use Rattle.mars_tokens.specs.Pieces.{IsPiece, blanks, comment, word, placed, integer, negative, quoted, arrow, round, round_end, less, greater, comma, dot, semicolon, slash, equals, hash}
use Rattle.mars_tokens.specs.PiecesInside.{byte_class, piece_by, first_of, digits_after, after_dash, after_quote, closing_place}
use Rattle.mars_tokens.proofs.Prefixes.{if-true, if-false, and-left, and-right, prefix-longest}

-- the first piece has at least so many bytes, and is this one if it has no more
abbrev pub Covers : Option (Piece × ℕ) → Piece → ℕ → Type 0
Covers None p m = ⊥
Covers (Some f) p m = (m ≤ f.1) × (f.1 ≤ m → f.0 ≡ p)

by-class : (two : Bool) (b : ℕ) (rest : List ℕ) (c : ByteClass) (p : Piece) (m : ℕ) → byte_class b ≡ c → Covers (piece_by two c b rest) p m → Covers (first_of two (b ∷ rest)) p m
by-class two b rest c p m e h = subst (λ (d : ByteClass). Covers (piece_by two d b rest) p m) (sym e) h

digit-no-letter : (b : ℕ) → is_digit_byte b ≡ true → is_letter_byte b ≡ false
digit-no-letter b e = grind (arith, nat_tests)

digit-no-greater : (b : ℕ) → is_digit_byte b ≡ true → (b == 62) ≡ false
digit-no-greater b e = grind (arith, nat_tests)

blank-no-letter : (b : ℕ) → is_blank_byte b ≡ true → is_letter_byte b ≡ false
blank-no-letter b e = grind (arith, nat_tests)

blank-no-digit : (b : ℕ) → is_blank_byte b ≡ true → is_digit_byte b ≡ false
blank-no-digit b e = grind (arith, nat_tests)

plain-no-quote : (b : ℕ) → is_plain_byte b ≡ true → (b == 34) ≡ false
plain-no-quote b e = grind (arith, nat_tests)

plain-no-backslash : (b : ℕ) → is_plain_byte b ≡ true → (b == 92) ≡ false
plain-no-backslash b e = grind (arith, nat_tests)

class-letter : (b : ℕ) → is_letter_byte b ≡ true → byte_class b ≡ class.Letter
class-letter b e = if-true (is_letter_byte b) class.Letter _ e

class-digit : (b : ℕ) → is_digit_byte b ≡ true → byte_class b ≡ class.Digit
class-digit b e = if-false (is_letter_byte b) class.Letter _ (digit-no-letter b e) ∙ if-true (is_digit_byte b) class.Digit _ e

class-blank : (b : ℕ) → is_blank_byte b ≡ true → byte_class b ≡ class.Blank
class-blank b e = if-false (is_letter_byte b) class.Letter _ (blank-no-letter b e) ∙ if-false (is_digit_byte b) class.Digit _ (blank-no-digit b e) ∙ if-true (is_blank_byte b) class.Blank _ e

digits-cover : (k : TokenKind) (digits back : List ℕ) → are_digits digits ≡ true → Covers (digits_after k (digits ++ back)) (piece.Token k) (suc (length digits))
digits-cover k [] back e = absurd (let f : ◌≡◌ {A = Bool} false true = e in cc)
digits-cover k (d ∷ ds) back e = at (prefix_len is_digit_byte (d ∷ (ds ++ back)) == 0) refl
  where
    fits : length (d ∷ ds) ≤ prefix_len is_digit_byte (d ∷ (ds ++ back))
    fits = prefix-longest is_digit_byte (d ∷ ds) back e

    at : (v : Bool) → (prefix_len is_digit_byte (d ∷ (ds ++ back)) == 0) ≡ v →
        Covers (if v then None else Some (piece.Token k, prefix_len is_digit_byte (d ∷ (ds ++ back)) + 1)) (piece.Token k) (suc (length (d ∷ ds)))
    at true e = absurd (let none : prefix_len is_digit_byte (d ∷ (ds ++ back)) ≡ 0 = grind (arith, nat_tests) in omega (arith, fits))
    at false e = (omega (arith, fits), λ le. refl)

dash-cover : (digits back : List ℕ) → are_digits digits ≡ true → Covers (after_dash (digits ++ back)) (piece.Token kind.Integer) (suc (length digits))
dash-cover [] back e = absurd (let f : ◌≡◌ {A = Bool} false true = e in cc)
dash-cover (d ∷ ds) back e =
    subst (λ (v : Bool). Covers (if v then Some (piece.Token kind.Arrow, 2) else digits_after kind.Integer (d ∷ (ds ++ back))) (piece.Token kind.Integer) (suc (length (d ∷ ds))))
    (sym (digit-no-greater d (and-left (is_digit_byte d) _ e))) (digits-cover kind.Integer (d ∷ ds) back e)

-- a string closes at the quote after its body
pub body-closes : (body : List ℕ) → IsStringBody body → (n : ℕ) (back : List ℕ) → closing_place n false ((body ++ 34 ∷ []) ++ back) ≡ Some (n + length body)
body-closes _ empty n back = ap Some (omega arith)
body-closes _ (plain b rest e r) n back =
    if-false (b == 34) _ _ (plain-no-quote b e) ∙ if-false (b == 92) _ _ (plain-no-backslash b e) ∙ if-true (is_plain_byte b) _ _ e
    ∙ body-closes rest r (n + 1) back ∙ ap Some (omega arith)
body-closes _ (escape b rest e r) n back = if-true (is_escaped_byte b) _ _ e ∙ body-closes rest r (n + 1 + 1) back ∙ ap Some (omega arith)

quote-cover : (two : Bool) (body back : List ℕ) → two ≡ true → IsStringBody body → Covers (after_quote two ((body ++ 34 ∷ []) ++ back)) (piece.Token kind.Text) (suc (length (body ++ 34 ∷ [])))
quote-cover two body back is r =
    subst (λ (v : Bool). Covers (after_quote v ((body ++ 34 ∷ []) ++ back)) (piece.Token kind.Text) (suc (length (body ++ 34 ∷ [])))) (sym is)
    (subst (λ (o : Option ℕ). Covers (option_map (λ (n : ℕ). (piece.Token kind.Text, n + 2)) o) (piece.Token kind.Text) (suc (length (body ++ 34 ∷ [])))) (sym (body-closes body r 0 back))
    (omega (arith, length-append body (34 ∷ [])), λ le. refl))

word-cover : (b : ℕ) (rest back : List ℕ) → list_all is_word_byte rest ≡ true
    → Covers (Some (piece.Token (word_kind (take (prefix_len is_word_byte (rest ++ back) + 1) (b ∷ (rest ++ back)))), prefix_len is_word_byte (rest ++ back) + 1)) (piece.Token (word_kind (b ∷ rest))) (suc (length rest))
word-cover b rest back all = (omega (arith, fits), λ le. whole le)
  where
    fits : length rest ≤ prefix_len is_word_byte (rest ++ back)
    fits = prefix-longest is_word_byte rest back all

    whole : prefix_len is_word_byte (rest ++ back) + 1 ≤ suc (length rest) → piece.Token (word_kind (take (prefix_len is_word_byte (rest ++ back) + 1) (b ∷ (rest ++ back)))) ≡ piece.Token (word_kind (b ∷ rest))
    whole le =
        let same : prefix_len is_word_byte (rest ++ back) + 1 ≡ suc (length rest) = omega (arith, fits) in
        ap (λ (k : ℕ). piece.Token (word_kind (take k (b ∷ (rest ++ back))))) same ∙ ap (λ (l : List ℕ). piece.Token (word_kind (b ∷ l))) (take-append_seam rest back)

pub covers : (two : Bool) (front : List ℕ) (p : Piece) → IsPiece two front p → (back : List ℕ) → Covers (first_of two (front ++ back)) p (length front)
covers two _ _ (blanks b rest e all) back =
    by-class two b (rest ++ back) class.Blank piece.Between (suc (length rest)) (class-blank b e) (omega (arith, prefix-longest is_blank_byte rest back all), λ le. refl)
covers two _ _ (comment inside all) back = (omega (arith, prefix-longest is_comment_byte inside back all), λ le. refl)
covers two _ _ (word b rest e all) back = by-class two b (rest ++ back) class.Letter (piece.Token (word_kind (b ∷ rest))) (suc (length rest)) (class-letter b e) (word-cover b rest back all)
covers two _ _ (placed digits e) back = digits-cover kind.Placed digits back e
covers two _ _ (integer d rest e) back =
    by-class two d (rest ++ back) class.Digit (piece.Token kind.Integer) (suc (length rest)) (class-digit d (and-left (is_digit_byte d) _ e))
    (omega (arith, prefix-longest is_digit_byte rest back (and-right (is_digit_byte d) _ e)), λ le. refl)
covers two _ _ (negative digits e) back = dash-cover digits back e
covers two _ _ (quoted body is r) back = quote-cover two body back is r
covers two _ _ arrow back = (omega arith, λ le. refl)
covers two _ _ round back = (omega arith, λ le. refl)
covers two _ _ round_end back = (omega arith, λ le. refl)
covers two _ _ less back = (omega arith, λ le. refl)
covers two _ _ greater back = (omega arith, λ le. refl)
covers two _ _ comma back = (omega arith, λ le. refl)
covers two _ _ dot back = (omega arith, λ le. refl)
covers two _ _ semicolon back = (omega arith, λ le. refl)
covers two _ _ slash back = (omega arith, λ le. refl)
covers two _ _ equals back = (omega arith, λ le. refl)
covers two _ _ hash back = (omega arith, λ le. refl)
