-- The first piece by its first byte is a piece.
use Rattle.std.proofs.Common.{◌≡◌, ℕ, suc, ◌+◌, ◌≤◌, ◌<◌, List, [], ◌∷◌, ◌++◌, length, take, refl, ap, sym, ◌∙◌, subst, Bool, true, false, arith, add-one, append_assoc, Option, Some, None, length-append, length-take-le}
use Rattle.std.specs.Prelude.{◌==◌, if◌then◌else◌, option_map}
use Rattle.std.specs.List.{prefix_len}
use Rattle.std.proofs.Math.Seq.{take-append_seam}
use Rattle.std.proofs.lemmas.Bool.Decides.{nat_tests}
use Rattle.std.proofs.lemmas.List.Sums.{prefix_len-le-length}
use Rattle.mars_forms.specs.declared.lexeme.TokenKind.{TokenKind}
use Rattle.mars_forms.specs.declared.lexeme.TokenKind.TheVariants as kind
use Rattle.mars_tokens.specs.declared.bytes.ByteClass.{ByteClass}
use Rattle.mars_tokens.specs.declared.bytes.ByteClass.TheVariants as class
use Rattle.mars_tokens.specs.declared.pieces.Piece.{Piece}
use Rattle.mars_tokens.specs.declared.pieces.Piece.TheVariants as piece
use Rattle.mars_tokens.specs.Bytes.{is_letter_byte, is_digit_byte, is_word_byte, is_blank_byte, is_comment_byte, is_plain_byte, is_escaped_byte}
use Rattle.mars_tokens.specs.Words.{word_kind}
use Rattle.mars_tokens.specs.Strings.{IsStringBody, empty, plain, escape}
use Rattle.mars_tokens.specs.Integers.{are_digits}
use Rattle.mars_tokens.specs.Pieces.{IsPiece, blanks, comment, word, placed, integer, negative, quoted, arrow, round, round_end, less, greater, comma, dot, semicolon, slash, equals, hash}
use Rattle.mars_tokens.specs.PiecesInside.{sign_kind, sign_class, other_class, byte_class, piece_by, first_of, digits_after, after_dash, after_quote, closing_place}
use Rattle.mars_tokens.proofs.Prefixes.{and-both, is-equal, prefix-all, digits-some}

-- the bytes have the first piece, if there is one, and it isn't empty
abbrev pub Sound : Bool → List ℕ → Option (Piece × ℕ) → Type 0
Sound two bytes None = Unit {0}
Sound two bytes (Some f) = (f.1 ≤ length bytes) × (0 < f.1) × IsPiece two (take f.1 bytes) f.0

-- what a byte of a class is
data View (b : ℕ) : ByteClass → Type 0 where
  letter : is_letter_byte b ≡ true → View b class.Letter
  digit : is_digit_byte b ≡ true → View b class.Digit
  blank : is_blank_byte b ≡ true → View b class.Blank
  percent : b ≡ 37 → View b class.Percent
  underscore : b ≡ 95 → View b class.Underscore
  dash : b ≡ 45 → View b class.Dash
  quote : b ≡ 34 → View b class.Quote
  sign : (k : TokenKind) → sign_kind b ≡ Some k → View b (class.Sign k)
  other : View b class.Other

sign-view : (b : ℕ) (o : Option TokenKind) → sign_kind b ≡ o → View b (sign_class o)
sign-view b None e = other
sign-view b (Some k) e = sign k e

other-view : (b : ℕ) → View b (other_class b)
other-view b = at1 (b == 37) refl
  where
    at4 : (v : Bool) → (b == 34) ≡ v → View b (if v then class.Quote else sign_class (sign_kind b))
    at4 true e = quote (is-equal b 34 e)
    at4 false e = sign-view b (sign_kind b) refl

    at3 : (v : Bool) → (b == 45) ≡ v → View b (if v then class.Dash else (if b == 34 then class.Quote else sign_class (sign_kind b)))
    at3 true e = dash (is-equal b 45 e)
    at3 false e = at4 (b == 34) refl

    at2 : (v : Bool) → (b == 95) ≡ v → View b (if v then class.Underscore else (if b == 45 then class.Dash else (if b == 34 then class.Quote else sign_class (sign_kind b))))
    at2 true e = underscore (is-equal b 95 e)
    at2 false e = at3 (b == 45) refl

    at1 : (v : Bool) → (b == 37) ≡ v → View b (if v then class.Percent else (if b == 95 then class.Underscore else (if b == 45 then class.Dash else (if b == 34 then class.Quote else sign_class (sign_kind b)))))
    at1 true e = percent (is-equal b 37 e)
    at1 false e = at2 (b == 95) refl

view : (b : ℕ) → View b (byte_class b)
view b = at1 (is_letter_byte b) refl
  where
    at3 : (v : Bool) → is_blank_byte b ≡ v → View b (if v then class.Blank else other_class b)
    at3 true e = blank e
    at3 false e = other-view b

    at2 : (v : Bool) → is_digit_byte b ≡ v → View b (if v then class.Digit else (if is_blank_byte b then class.Blank else other_class b))
    at2 true e = digit e
    at2 false e = at3 (is_blank_byte b) refl

    at1 : (v : Bool) → is_letter_byte b ≡ v → View b (if v then class.Letter else (if is_digit_byte b then class.Digit else (if is_blank_byte b then class.Blank else other_class b)))
    at1 true e = letter e
    at1 false e = at2 (is_digit_byte b) refl

-- a sign by its byte
chosen : (P : TokenKind → Type 0) (v : Bool) (x : TokenKind) (o : Option TokenKind) (k : TokenKind) → (v ≡ true → P x) → (o ≡ Some k → P k) → (if v then Some x else o) ≡ Some k → P k
chosen P true x o k f g e = subst P (let same : x ≡ k = cc in same) (f refl)
chosen P false x o k f g e = g e

abbrev IsSign : Bool → ℕ → TokenKind → Type 0
IsSign two b k = IsPiece two (b ∷ []) (piece.Token k)

sign-at : (two : Bool) (b n : ℕ) (k : TokenKind) → (b == n) ≡ true → IsPiece two (n ∷ []) (piece.Token k) → IsSign two b k
sign-at two b n k t p = subst (λ (c : ℕ). IsPiece two (c ∷ []) (piece.Token k)) (sym (is-equal b n t)) p

sign-piece : (two : Bool) (b : ℕ) (k : TokenKind) → sign_kind b ≡ Some k → IsPiece two (b ∷ []) (piece.Token k)
sign-piece two b k e =
    chosen (IsSign two b) (b == 40) kind.Open _ k (λ t. sign-at two b 40 kind.Open t round)
    (chosen (IsSign two b) (b == 41) kind.Close _ k (λ t. sign-at two b 41 kind.Close t round_end)
    (chosen (IsSign two b) (b == 60) kind.Less _ k (λ t. sign-at two b 60 kind.Less t less)
    (chosen (IsSign two b) (b == 62) kind.Greater _ k (λ t. sign-at two b 62 kind.Greater t greater)
    (chosen (IsSign two b) (b == 44) kind.Comma _ k (λ t. sign-at two b 44 kind.Comma t comma)
    (chosen (IsSign two b) (b == 46) kind.Dot _ k (λ t. sign-at two b 46 kind.Dot t dot)
    (chosen (IsSign two b) (b == 59) kind.Semicolon _ k (λ t. sign-at two b 59 kind.Semicolon t semicolon)
    (chosen (IsSign two b) (b == 47) kind.Slash _ k (λ t. sign-at two b 47 kind.Slash t slash)
    (chosen (IsSign two b) (b == 61) kind.Equals _ k (λ t. sign-at two b 61 kind.Equals t equals)
    (chosen (IsSign two b) (b == 35) kind.Hash None k (λ t. sign-at two b 35 kind.Hash t hash) (λ n. absurd (let f : ◌≡◌ {A = Option TokenKind} None (Some k) = n in cc))))))))))) e

-- a run of bytes after the first
run-sound : (two : Bool) (b : ℕ) (test : ℕ → Bool) (rest : List ℕ) (p : Piece) → IsPiece two (b ∷ take (prefix_len test rest) rest) p → Sound two (b ∷ rest) (Some (p, prefix_len test rest + 1))
run-sound two b test rest p is =
    (omega (arith, prefix_len-le-length test rest), omega arith, subst (λ (k : ℕ). IsPiece two (take k (b ∷ rest)) p) (sym (add-one (prefix_len test rest))) is)

letter-sound : (two : Bool) (b : ℕ) (rest : List ℕ) → is_letter_byte b ≡ true → Sound two (b ∷ rest) (piece_by two class.Letter b rest)
letter-sound two b rest e = (
  omega (arith, prefix_len-le-length is_word_byte rest),
  omega arith,
  subst (λ (k : ℕ). IsPiece two (take k (b ∷ rest)) (piece.Token (word_kind (take k (b ∷ rest))))) (sym (add-one (prefix_len is_word_byte rest)))
      (word b (take (prefix_len is_word_byte rest) rest) e (prefix-all is_word_byte rest)),
)

digits-sound : (two : Bool) (b : ℕ) (k : TokenKind) (rest : List ℕ) → ((ds : List ℕ) → are_digits ds ≡ true → IsPiece two (b ∷ ds) (piece.Token k)) → Sound two (b ∷ rest) (digits_after k rest)
digits-sound two b k rest make = at (prefix_len is_digit_byte rest == 0) refl
  where
    at : (v : Bool) → (prefix_len is_digit_byte rest == 0) ≡ v → Sound two (b ∷ rest) (if v then None else Some (piece.Token k, prefix_len is_digit_byte rest + 1))
    at true e = tt
    at false e =
        let some : 0 < prefix_len is_digit_byte rest = grind (arith, nat_tests) in
        let size : length (take (prefix_len is_digit_byte rest) rest) ≡ prefix_len is_digit_byte rest = length-take-le (prefix_len is_digit_byte rest) rest (prefix_len-le-length is_digit_byte rest) in
        run-sound two b is_digit_byte rest (piece.Token k) (make (take (prefix_len is_digit_byte rest) rest) (digits-some (take (prefix_len is_digit_byte rest) rest) (prefix-all is_digit_byte rest) (omega arith)))

dash-sound : (two : Bool) (rest : List ℕ) → Sound two (45 ∷ rest) (after_dash rest)
dash-sound two [] = tt
dash-sound two (c ∷ u) = at (c == 62) refl
  where
    at : (v : Bool) → (c == 62) ≡ v → Sound two (45 ∷ c ∷ u) (if v then Some (piece.Token kind.Arrow, 2) else digits_after kind.Integer (c ∷ u))
    at true e = (omega arith, omega arith, subst (λ (d : ℕ). IsPiece two (45 ∷ d ∷ []) (piece.Token kind.Arrow)) (sym (is-equal c 62 e)) arrow)
    at false e = digits-sound two 45 kind.Integer (c ∷ u) (λ ds f. negative ds f)

-- what comes before the quote that closes
record Closed (n m : ℕ) (rest : List ℕ) : Type 0 where
  pub body : List ℕ
  pub back : List ℕ
  pub whole : rest ≡ body ++ (34 ∷ back)
  pub string : IsStringBody body
  pub place : m ≡ n + length body

-- what comes after a backslash
record Escaped (n m : ℕ) (rest : List ℕ) : Type 0 where
  pub first : ℕ
  pub behind : List ℕ
  pub whole : rest ≡ first ∷ behind
  pub is : is_escaped_byte first ≡ true
  pub closed : Closed (n + 1) m behind

none-some : (m : ℕ) → ◌≡◌ {A = Option ℕ} None (Some m) → ⊥
none-some m e = cc

escaped-some : (n c : ℕ) (u : List ℕ) (m : ℕ) → (closing_place (n + 1) false u ≡ Some m → Closed (n + 1) m u) → closing_place n true (c ∷ u) ≡ Some m → Escaped n m (c ∷ u)
escaped-some n c u m f e = at (is_escaped_byte c) refl e
  where
    at : (v : Bool) → is_escaped_byte c ≡ v → (if v then closing_place (n + 1) false u else None) ≡ Some m → Escaped n m (c ∷ u)
    at true t e = record { first = c; behind = u; whole = refl; is = t; closed = f e }
    at false t e = absurd (none-some m e)

closed-escape : (n b : ℕ) (rest : List ℕ) (m : ℕ) → b ≡ 92 → Escaped (n + 1) m rest → Closed n m (b ∷ rest)
closed-escape n b rest m is s = record {
  body = b ∷ s.first ∷ s.closed.body;
  back = s.closed.back;
  whole = ap (λ (l : List ℕ). b ∷ l) (s.whole ∙ ap (λ (l : List ℕ). s.first ∷ l) s.closed.whole);
  string = subst (λ (d : ℕ). IsStringBody (d ∷ s.first ∷ s.closed.body)) (sym is) (escape s.first s.closed.body s.is s.closed.string);
  place = omega (arith, s.closed.place);
}

closed-plain : (n b : ℕ) (rest : List ℕ) (m : ℕ) → is_plain_byte b ≡ true → Closed (n + 1) m rest → Closed n m (b ∷ rest)
closed-plain n b rest m is s = record {
  body = b ∷ s.body;
  back = s.back;
  whole = ap (λ (l : List ℕ). b ∷ l) s.whole;
  string = plain b s.body is s.string;
  place = omega (arith, s.place);
}

closed-here : (n b : ℕ) (rest : List ℕ) (m : ℕ) → b ≡ 34 → ◌≡◌ {A = Option ℕ} (Some n) (Some m) → Closed n m (b ∷ rest)
closed-here n b rest m is e =
    let same : n ≡ m = cc in
    record { body = []; back = rest; whole = ap (λ (d : ℕ). d ∷ rest) is; string = empty; place = omega arith }

closed-step : (n b : ℕ) (rest : List ℕ) (m : ℕ) → (closing_place (n + 1) false rest ≡ Some m → Closed (n + 1) m rest) → (closing_place (n + 1) true rest ≡ Some m → Escaped (n + 1) m rest) → closing_place n false (b ∷ rest) ≡ Some m → Closed n m (b ∷ rest)
closed-step n b rest m f g e = at1 (b == 34) refl e
  where
    at3 : (v : Bool) → is_plain_byte b ≡ v → (if v then closing_place (n + 1) false rest else None) ≡ Some m → Closed n m (b ∷ rest)
    at3 true t e = closed-plain n b rest m t (f e)
    at3 false t e = absurd (none-some m e)

    at2 : (v : Bool) → (b == 92) ≡ v → (if v then closing_place (n + 1) true rest else (if is_plain_byte b then closing_place (n + 1) false rest else None)) ≡ Some m → Closed n m (b ∷ rest)
    at2 true t e = closed-escape n b rest m (is-equal b 92 t) (g e)
    at2 false t e = at3 (is_plain_byte b) refl e

    at1 : (v : Bool) → (b == 34) ≡ v → (if v then Some n else (if b == 92 then closing_place (n + 1) true rest else (if is_plain_byte b then closing_place (n + 1) false rest else None))) ≡ Some m → Closed n m (b ∷ rest)
    at1 true t e = closed-here n b rest m (is-equal b 34 t) e
    at1 false t e = at2 (b == 92) refl e

closed : (rest : List ℕ) (n m : ℕ) → closing_place n false rest ≡ Some m → Closed n m rest
closed [] n m e = absurd (none-some m e)
closed (b ∷ []) n m e = closed-step n b [] m (λ f. absurd (none-some m f)) (λ f. absurd (none-some m f)) e
closed (b ∷ c ∷ u) n m e = closed-step n b (c ∷ u) m (λ f. closed (c ∷ u) (n + 1) m f) (λ f. escaped-some (n + 1) c u m (λ g. closed u (n + 1 + 1) m g) f) e

quote-closed : (rest : List ℕ) (m : ℕ) → Closed 0 m rest → Sound true (34 ∷ rest) (Some (piece.Token kind.Text, m + 2))
quote-closed rest m c =
    let size : length rest ≡ length c.body + suc (length c.back) = ap (λ (l : List ℕ). length l) c.whole ∙ length-append c.body (34 ∷ c.back) in
    let more : length (c.body ++ 34 ∷ []) ≡ length c.body + 1 = length-append c.body (34 ∷ []) in
    let count : m + 2 ≡ suc (length (c.body ++ 34 ∷ [])) = omega (arith, c.place) in
    let spelled : take (m + 2) (34 ∷ rest) ≡ 34 ∷ (c.body ++ 34 ∷ []) = ap (λ (k : ℕ). take k (34 ∷ rest)) count
    ∙ ap (λ (l : List ℕ). 34 ∷ take (length (c.body ++ 34 ∷ [])) l) (c.whole ∙ sym (append_assoc c.body (34 ∷ []) c.back))
    ∙ ap (λ (l : List ℕ). 34 ∷ l) (take-append_seam (c.body ++ 34 ∷ []) c.back) in
    (omega (arith, c.place), omega arith, subst (λ (l : List ℕ). IsPiece true l (piece.Token kind.Text)) (sym spelled) (quoted c.body refl c.string))

quote-sound : (two : Bool) (rest : List ℕ) → Sound two (34 ∷ rest) (after_quote two rest)
quote-sound false rest = tt
quote-sound true rest = at (closing_place 0 false rest) refl
  where
    at : (o : Option ℕ) → closing_place 0 false rest ≡ o → Sound true (34 ∷ rest) (option_map (λ (n : ℕ). (piece.Token kind.Text, n + 2)) o)
    at None e = tt
    at (Some m) e = quote-closed rest m (closed rest 0 m e)

by-view : (two : Bool) (b : ℕ) (rest : List ℕ) (c : ByteClass) → View b c → Sound two (b ∷ rest) (piece_by two c b rest)
by-view two b rest _ (letter e) = letter-sound two b rest e
by-view two b rest _ (digit e) =
    run-sound two b is_digit_byte rest (piece.Token kind.Integer) (integer b (take (prefix_len is_digit_byte rest) rest) (and-both (is_digit_byte b) _ e (prefix-all is_digit_byte rest)))
by-view two b rest _ (blank e) = run-sound two b is_blank_byte rest piece.Between (blanks b (take (prefix_len is_blank_byte rest) rest) e (prefix-all is_blank_byte rest))
by-view two b rest _ (percent e) =
    subst (λ (d : ℕ). Sound two (d ∷ rest) (Some (piece.Between, prefix_len is_comment_byte rest + 1))) (sym e)
    (run-sound two 37 is_comment_byte rest piece.Between (comment (take (prefix_len is_comment_byte rest) rest) (prefix-all is_comment_byte rest)))
by-view two b rest _ (underscore e) = subst (λ (d : ℕ). Sound two (d ∷ rest) (digits_after kind.Placed rest)) (sym e) (digits-sound two 95 kind.Placed rest (λ ds f. placed ds f))
by-view two b rest _ (dash e) = subst (λ (d : ℕ). Sound two (d ∷ rest) (after_dash rest)) (sym e) (dash-sound two rest)
by-view two b rest _ (quote e) = subst (λ (d : ℕ). Sound two (d ∷ rest) (after_quote two rest)) (sym e) (quote-sound two rest)
by-view two b rest _ (sign k e) = (omega arith, omega arith, sign-piece two b k e)
by-view two b rest _ other = tt

pub sound : (two : Bool) (bytes : List ℕ) → Sound two bytes (first_of two bytes)
sound two [] = tt
sound two (b ∷ rest) = by-view two b rest (byte_class b) (view b)
