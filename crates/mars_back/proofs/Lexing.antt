-- Parts whose tokens come first, one after the other, are cut into these tokens again.
use Rattle.std.proofs.Common.{◌≡◌, ℕ, ◌+◌, List, [], ◌∷◌, ◌++◌, length, take, refl, ap, sym, ◌∙◌, subst, Bool, true, false, cond, Option, Some, None, arith}
use Rattle.std.specs.List.{prefix_len}
use Rattle.std.proofs.Math.Seq.{take-append_seam, drop-append_seam}
use Rattle.std.proofs.lemmas.Bool.Decides.{nat_tests}
use Rattle.mars_forms.specs.declared.lexeme.TokenKind.{TokenKind}
use Rattle.mars_tokens.specs.declared.pieces.Piece.{Piece}
use Rattle.mars_tokens.specs.declared.pieces.Piece.TheVariants as piece
use Rattle.mars_tokens.specs.Bytes.{is_letter_byte, is_digit_byte, is_blank_byte}
use Rattle.mars_tokens.specs.Pieces.{IsPiece, IsLongestPiece}
use Rattle.mars_tokens.specs.PiecesInside.{first_of}
use Rattle.mars_tokens.specs.Refusals.{over_limit, depth_after}
use Rattle.mars_tokens.specs.Tokens.{TokensFrom}
use Rattle.mars_tokens.specs.Tokens as tokens
use Rattle.mars_tokens.proofs.Firsts.{IsFirst, first-is}
use Rattle.mars_back.specs.PartsInside.{TextPart, Token, Blank, Left, parts_text, part_lexemes}

-- the first part is a token
abbrev pub BeginsToken : List TextPart → Type 0
BeginsToken [] = ⊥
BeginsToken (Token s k text step ∷ parts) = Unit {0}
BeginsToken (Blank ∷ parts) = ⊥
BeginsToken (Left s a ∷ parts) = ⊥

-- each token is the first piece there, within the limits of tokens, where so many brackets are open
abbrev pub AreLexed : ℕ → List TextPart → Type 0
AreLexed depth [] = Unit {0}
AreLexed depth (Token s k text step ∷ parts) = (first_of true (text ++ parts_text parts) ≡ Some (piece.Token k, length text)) × (over_limit depth k text ≡ None) × AreLexed (depth_after depth k) parts
AreLexed depth (Blank ∷ parts) = BeginsToken parts × AreLexed depth parts
AreLexed depth (Left s a ∷ parts) = AreLexed depth parts

blank_no_letter : (b : ℕ) → is_blank_byte b ≡ true → is_letter_byte b ≡ false
blank_no_letter b e = grind (arith, nat_tests)

blank_no_digit : (b : ℕ) → is_blank_byte b ≡ true → is_digit_byte b ≡ false
blank_no_digit b e = grind (arith, nat_tests)

blank_piece : (b : ℕ) (rest : List ℕ) → is_blank_byte b ≡ true → first_of true (b ∷ rest) ≡ Some (piece.Between, prefix_len is_blank_byte rest + 1)
blank_piece b rest e = rw (blank_no_letter b e, blank_no_digit b e, e) refl

abbrev IsBetween : Piece → Type 0
IsBetween piece.Between = Unit {0}
IsBetween (piece.Token k) = ⊥

abbrev BetweenFirst : Option (Piece × ℕ) → Type 0
BetweenFirst None = ⊥
BetweenFirst (Some first) = IsBetween first.0

between_no_token : (k : TokenKind) (m n : ℕ) → ◌≡◌ {A = Option (Piece × ℕ)} (Some (piece.Between, m)) (Some (piece.Token k, n)) → ⊥
between_no_token k m n e = subst (λ (o : Option (Piece × ℕ)). BetweenFirst o) e tt

-- bytes that begin with a token begin with no blank
no_blank : (bytes : List ℕ) (k : TokenKind) (n : ℕ) → first_of true bytes ≡ Some (piece.Token k, n) → prefix_len is_blank_byte bytes ≡ 0
no_blank [] k n e = refl
no_blank (b ∷ rest) k n e = at (is_blank_byte b) refl
  where
    at : (v : Bool) → is_blank_byte b ≡ v → cond v (1 + prefix_len is_blank_byte rest) 0 ≡ 0
    at true t = absurd (between_no_token k (prefix_len is_blank_byte rest + 1) n (sym (blank_piece b rest t) ∙ e))
    at false t = refl

one_blank : (parts : List TextPart) (depth : ℕ) → BeginsToken parts → AreLexed depth parts → prefix_len is_blank_byte (parts_text parts) ≡ 0
one_blank [] depth begins lexed = absurd begins
one_blank (Token s k text step ∷ parts) depth begins lexed = no_blank (text ++ parts_text parts) k (length text) lexed.0
one_blank (Blank ∷ parts) depth begins lexed = absurd begins
one_blank (Left s a ∷ parts) depth begins lexed = absurd begins

-- what comes first is a piece, and no longer one is
first_piece : (text rest : List ℕ) (p : Piece) → first_of true (text ++ rest) ≡ Some (p, length text) → IsPiece true text p × IsLongestPiece true text rest
first_piece text rest p e =
    let first : IsFirst true (text ++ rest) p (length text) = first-is true (text ++ rest) p (length text) e in (
      subst (λ (l : List ℕ). IsPiece true l p) (take-append_seam text rest) first.piece,
      subst (λ (l : List ℕ). IsLongestPiece true l rest) (take-append_seam text rest) (subst (λ (l : List ℕ). IsLongestPiece true (take (length text) (text ++ rest)) l) (drop-append_seam text rest) first.longest),
    )

pub lexed : (parts : List TextPart) (at depth : ℕ) → AreLexed depth parts → TokensFrom true at depth (parts_text parts) (part_lexemes at parts) None
lexed [] at depth are = tokens.ended at depth
lexed (Token s k text step ∷ parts) at depth are =
    let first = first_piece text (parts_text parts) (piece.Token k) are.0 in
    tokens.taken at depth text (parts_text parts) k (part_lexemes (at + length text) parts) None first.0 first.1 are.1 (lexed parts (at + length text) (depth_after depth k) are.2)
lexed (Blank ∷ parts) at depth are =
    let none = one_blank parts depth are.0 are.1 in
    let found : first_of true (32 ∷ parts_text parts) ≡ Some (piece.Between, 1) = ap (λ n. Some (piece.Between, n + 1)) none in
    let first = first_piece (32 ∷ []) (parts_text parts) piece.Between found in
    tokens.skipped at depth (32 ∷ []) (parts_text parts) (part_lexemes (at + 1) parts) None first.0 first.1 (lexed parts (at + 1) depth are.1)
lexed (Left s a ∷ parts) at depth are = lexed parts at depth are
