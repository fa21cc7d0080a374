-- The first token of a text, whichever version it is read in.
use Rattle.std.proofs.Common.{◌≡◌, ℕ, ◌+◌, ◌≤◌, List, [], ◌∷◌, length, take, drop, refl, ap, sym, ◌∙◌, subst, Bool, true, false, arith, Option, Some, None, length-take-le}
use Rattle.std.specs.Prelude.{◌&&◌, nat_lt, nat_le, option_map}
use Rattle.std.proofs.lemmas.List.{drop-drop}
use Rattle.std.proofs.lemmas.Bool.Decides.{nat_tests}
use Rattle.mars_forms.specs.declared.lexeme.TokenKind.{TokenKind}
use Rattle.mars_forms.specs.declared.lexeme.TokenKind.TheVariants as kind
use Rattle.mars_forms.specs.declared.lexeme.Lexeme.{Lexeme}
use Rattle.mars_tokens.specs.declared.bytes.ByteClass.{ByteClass}
use Rattle.mars_tokens.specs.declared.bytes.ByteClass.TheVariants as class
use Rattle.mars_tokens.specs.declared.pieces.Piece.{Piece}
use Rattle.mars_tokens.specs.declared.pieces.Piece.TheVariants as piece
use Rattle.mars_tokens.specs.declared.lexer.TokenRefusal.{TokenRefusal}
use Rattle.mars_tokens.specs.declared.lexer.TokenRefusal.TheVariants as refusal
use Rattle.mars_tokens.specs.declared.limits.TheConstants.{TOKEN_LIMIT}
use Rattle.mars_tokens.specs.Refusals.{over_limit, refusal_if}
use Rattle.mars_tokens.specs.Tokens.{TokensFrom, IsTokenList, begins_two, is_rules_two}
use Rattle.mars_tokens.specs.PiecesInside.{byte_class, piece_by, first_of, after_quote, closing_place}
use Rattle.mars_tokens.proofs.Firsts.{IsFirst, first-is}
use Rattle.mars_tokens.proofs.Reading.{first-within, drop-past}
use Rattle.mars_tokens.proofs.Unique.{Turn, PieceTurn, TokenTurn, NoneTurn, turn}

piece-version : (two : Bool) (c : ByteClass) (b : ℕ) (rest : List ℕ) (f : Piece × ℕ) → piece_by false c b rest ≡ Some f → piece_by two c b rest ≡ Some f
piece-version two class.Quote b rest f e = absurd (let g : ◌≡◌ {A = Option (Piece × ℕ)} None (Some f) = e in cc)
piece-version two _ b rest f e = e

-- what comes first in version 1 comes first in both
pub first-version : (two : Bool) (bytes : List ℕ) (f : Piece × ℕ) → first_of false bytes ≡ Some f → first_of two bytes ≡ Some f
first-version two [] f e = e
first-version two (b ∷ rest) f e = piece-version two (byte_class b) b rest f e

-- the same tokens are left in each version
pub record Reached (bytes : List ℕ) (at : ℕ) : Type 0 where
  pub at_in : at ≤ length bytes
  pub each : (two : Bool) (ts : List Lexeme) (r : Option TokenRefusal) → IsTokenList two bytes ts r → TokensFrom two at 0 (drop at bytes) ts r

pub reached-none : (bytes : List ℕ) → Reached bytes 0
reached-none bytes = record { at_in = omega arith; each = λ two ts r t. t }

here : (bytes : List ℕ) (at : ℕ) (two : Bool) (ts : List Lexeme) (r : Option TokenRefusal) (f : Piece × ℕ) → Reached bytes at → first_of false (drop at bytes) ≡ Some f → IsTokenList two bytes ts r → PieceTurn f.0 two at 0 f.1 (drop at bytes) ts r
here bytes at two ts r f so_far e t =
    subst (λ (o : Option (Piece × ℕ)). Turn o two at 0 (drop at bytes) ts r) (first-version two (drop at bytes) f e) (turn two at 0 (drop at bytes) ts r (so_far.each two ts r t))

pub reached-skip : (bytes : List ℕ) (at n : ℕ) → Reached bytes at → first_of false (drop at bytes) ≡ Some (piece.Between, n) → Reached bytes (at + n)
reached-skip bytes at n so_far e = record {
  at_in = (first-within false bytes at n piece.Between so_far.at_in e).1;
  each = λ two ts r t. subst (λ (l : List ℕ). TokensFrom two (at + n) 0 l ts r) (drop-drop n at bytes) (here bytes at two ts r (piece.Between, n) so_far e t);
}

-- the word is the first token where it is short enough, as each other is where it is over no limit
short-none : (m n : ℕ) → refusal_if (nat_lt m n) refusal.Name ≡ None → nat_le n m ≡ true
short-none m n e = at (nat_lt m n) refl e
  where
    at : (v : Bool) → nat_lt m n ≡ v → refusal_if v refusal.Name ≡ None → nat_le n m ≡ true
    at true t e = absurd (let g : ◌≡◌ {A = Option TokenRefusal} (Some refusal.Name) None = e in cc)
    at false t e = grind (arith, nat_tests)

long-some : (m n : ℕ) (r : TokenRefusal) → refusal_if (nat_lt m n) refusal.Name ≡ Some r → nat_le n m ≡ false
long-some m n r e = at (nat_lt m n) refl e
  where
    at : (v : Bool) → nat_lt m n ≡ v → refusal_if v refusal.Name ≡ Some r → nat_le n m ≡ false
    at true t e = grind (arith, nat_tests)
    at false t e = absurd (let g : ◌≡◌ {A = Option TokenRefusal} None (Some r) = e in cc)

word-none : (k : TokenKind) (text : List ℕ) → over_limit 0 k text ≡ None → (is_rules_two k && nat_le (length text) TOKEN_LIMIT) ≡ is_rules_two k
word-none kind.RulesTwo text e = short-none TOKEN_LIMIT (length text) e
word-none _ text e = refl

word-some : (k : TokenKind) (text : List ℕ) (r : TokenRefusal) → over_limit 0 k text ≡ Some r → (is_rules_two k && nat_le (length text) TOKEN_LIMIT) ≡ false
word-some kind.RulesTwo text r e = long-some TOKEN_LIMIT (length text) r e
word-some _ text r e = refl

token-begins : (o : Option TokenRefusal) (two : Bool) (at n : ℕ) (k : TokenKind) (bytes : List ℕ) (ts : List Lexeme) (r : Option TokenRefusal) → over_limit 0 k (take n bytes) ≡ o → TokenTurn o two at 0 n k bytes ts r
    → (is_rules_two k && nat_le (length (take n bytes)) TOKEN_LIMIT) ≡ begins_two ts
token-begins None two at n k bytes ts r e p = word-none k (take n bytes) e ∙ sym (ap (λ (l : List Lexeme). begins_two l) p.whole)
token-begins (Some s) two at n k bytes ts r e p = word-some k (take n bytes) s e ∙ sym (ap (λ (l : List Lexeme). begins_two l) p.0)

pub version-token : (bytes : List ℕ) (at n : ℕ) (k : TokenKind) → Reached bytes at → first_of false (drop at bytes) ≡ Some (piece.Token k, n) → (two : Bool) (ts : List Lexeme) (r : Option TokenRefusal) → IsTokenList two bytes ts r → (is_rules_two k && nat_le n TOKEN_LIMIT) ≡ begins_two ts
version-token bytes at n k so_far e two ts r t =
    let first : IsFirst false (drop at bytes) (piece.Token k) n = first-is false (drop at bytes) (piece.Token k) n e in
    subst (λ (m : ℕ). (is_rules_two k && nat_le m TOKEN_LIMIT) ≡ begins_two ts) (length-take-le n (drop at bytes) first.within)
    (token-begins (over_limit 0 k (take n (drop at bytes))) two at n k (drop at bytes) ts r refl (here bytes at two ts r (piece.Token k, n) so_far e t))

none-begins : (at : ℕ) (bytes : List ℕ) (ts : List Lexeme) (r : Option TokenRefusal) → NoneTurn at bytes ts r → false ≡ begins_two ts
none-begins at [] ts r p = sym (ap (λ (l : List Lexeme). begins_two l) p.0)
none-begins at (b ∷ rest) ts r p = sym (ap (λ (l : List Lexeme). begins_two l) p.0)

text-begins : (o : Option TokenRefusal) (two : Bool) (at n : ℕ) (bytes : List ℕ) (ts : List Lexeme) (r : Option TokenRefusal) → TokenTurn o two at 0 n kind.Text bytes ts r → false ≡ begins_two ts
text-begins None two at n bytes ts r p = sym (ap (λ (l : List Lexeme). begins_two l) p.whole)
text-begins (Some s) two at n bytes ts r p = sym (ap (λ (l : List Lexeme). begins_two l) p.0)

-- where nothing comes first in version 1, nothing or a string does in version 2
data Other (o : Option (Piece × ℕ)) : Type 0 where
  nothing : o ≡ None → Other o
  string : (n : ℕ) → o ≡ Some (piece.Token kind.Text, n) → Other o

quote-other : (two : Bool) (rest : List ℕ) → Other (after_quote two rest)
quote-other false rest = nothing refl
quote-other true rest = at (closing_place 0 false rest)
  where
    at : (o : Option ℕ) → Other (option_map (λ (n : ℕ). (piece.Token kind.Text, n + 2)) o)
    at None = nothing refl
    at (Some m) = string (m + 2) refl

class-other : (two : Bool) (c : ByteClass) (b : ℕ) (rest : List ℕ) → piece_by false c b rest ≡ None → Other (piece_by two c b rest)
class-other two class.Quote b rest e = quote-other two rest
class-other two _ b rest e = nothing e

first-other : (two : Bool) (bytes : List ℕ) → first_of false bytes ≡ None → Other (first_of two bytes)
first-other two [] e = nothing refl
first-other two (b ∷ rest) e = class-other two (byte_class b) b rest e

other-begins : (o : Option (Piece × ℕ)) (two : Bool) (at : ℕ) (bytes : List ℕ) (ts : List Lexeme) (r : Option TokenRefusal) → Other o → Turn o two at 0 bytes ts r → false ≡ begins_two ts
other-begins o two at bytes ts r (nothing e) p = none-begins at bytes ts r (subst (λ (o : Option (Piece × ℕ)). Turn o two at 0 bytes ts r) e p)
other-begins o two at bytes ts r (string n e) p = text-begins (over_limit 0 kind.Text (take n bytes)) two at n bytes ts r (subst (λ (o : Option (Piece × ℕ)). Turn o two at 0 bytes ts r) e p)

pub version-none : (bytes : List ℕ) (at : ℕ) → Reached bytes at → first_of false (drop at bytes) ≡ None → (two : Bool) (ts : List Lexeme) (r : Option TokenRefusal) → IsTokenList two bytes ts r → false ≡ begins_two ts
version-none bytes at so_far e two ts r t =
    other-begins (first_of two (drop at bytes)) two at (drop at bytes) ts r (first-other two (drop at bytes) e) (turn two at 0 (drop at bytes) ts r (so_far.each two ts r t))

pub version-end : (bytes : List ℕ) (at : ℕ) → Reached bytes at → length bytes ≤ at → (two : Bool) (ts : List Lexeme) (r : Option TokenRefusal) → IsTokenList two bytes ts r → false ≡ begins_two ts
version-end bytes at so_far le two ts r t =
    none-begins at [] ts r (turn two at 0 [] ts r (subst (λ (l : List ℕ). TokensFrom two at 0 l ts r) (drop-past at bytes le) (so_far.each two ts r t)))
