-- A text has one list of tokens.
use Rattle.std.proofs.Common.{◌≡◌, ◌≢◌, ℕ, suc, zero, ◌+◌, ◌<◌, List, [], ◌∷◌, ◌++◌, length, take, drop, refl, ap, sym, ◌∙◌, subst, Bool, arith, Option, Some, None, length-drop}
use Rattle.std.proofs.Math.Seq.{take-append_seam, drop-append_seam}
use Rattle.mars_forms.specs.declared.lexeme.TokenKind.{TokenKind}
use Rattle.mars_forms.specs.declared.lexeme.Lexeme.{Lexeme}
use Rattle.mars_tokens.specs.declared.pieces.Piece.{Piece}
use Rattle.mars_tokens.specs.declared.pieces.Piece.TheVariants as piece
use Rattle.mars_tokens.specs.declared.lexer.TokenRefusal.{TokenRefusal}
use Rattle.mars_tokens.specs.declared.lexer.TokenRefusal.TheVariants as refusal
use Rattle.mars_tokens.specs.Refusals.{over_limit, depth_after}
use Rattle.mars_tokens.specs.Tokens.{TokensFrom, ended, skipped, taken, over, bad, OneTokenListEach, SameTokens, lexeme_at, refused_at}
use Rattle.mars_tokens.specs.PiecesInside.{first_of}
use Rattle.mars_tokens.proofs.Firsts.{IsFirst, first-is, first-told, none-first}

-- what the tokens are where no piece comes first: none at the end of the text, else a refusal
abbrev pub NoneTurn : ℕ → List ℕ → List Lexeme → Option TokenRefusal → Type 0
NoneTurn at [] ts r = (ts ≡ []) × (r ≡ None)
NoneTurn at (b ∷ rest) ts r = (ts ≡ refused_at at ∷ []) × (r ≡ Some refusal.BadByte)

-- and where a token comes first, by the limit that it is over
pub record Taken (two : Bool) (at depth n : ℕ) (k : TokenKind) (bytes : List ℕ) (ts : List Lexeme) (r : Option TokenRefusal) : Type 0 where
  pub others : List Lexeme
  pub whole : ts ≡ lexeme_at k at (at + n) ∷ others
  pub tokens : TokensFrom two (at + n) (depth_after depth k) (drop n bytes) others r

abbrev pub TokenTurn : Option TokenRefusal → Bool → ℕ → ℕ → ℕ → TokenKind → List ℕ → List Lexeme → Option TokenRefusal → Type 0
TokenTurn None two at depth n k bytes ts r = Taken two at depth n k bytes ts r
TokenTurn (Some s) two at depth n k bytes ts r = (ts ≡ refused_at at ∷ []) × (r ≡ Some s)

abbrev pub PieceTurn : Piece → Bool → ℕ → ℕ → ℕ → List ℕ → List Lexeme → Option TokenRefusal → Type 0
PieceTurn piece.Between two at depth n bytes ts r = TokensFrom two (at + n) depth (drop n bytes) ts r
PieceTurn (piece.Token k) two at depth n bytes ts r = TokenTurn (over_limit depth k (take n bytes)) two at depth n k bytes ts r

abbrev pub Turn : Option (Piece × ℕ) → Bool → ℕ → ℕ → List ℕ → List Lexeme → Option TokenRefusal → Type 0
Turn None two at depth bytes ts r = NoneTurn at bytes ts r
Turn (Some f) two at depth bytes ts r = PieceTurn f.0 two at depth f.1 bytes ts r

bad-turn : (at : ℕ) (bytes : List ℕ) → bytes ≢ [] → NoneTurn at bytes (refused_at at ∷ []) (Some refusal.BadByte)
bad-turn at [] some = absurd (some refl)
bad-turn at (b ∷ rest) some = (refl, refl)

pub turn : (two : Bool) (at depth : ℕ) (bytes : List ℕ) (ts : List Lexeme) (r : Option TokenRefusal) → TokensFrom two at depth bytes ts r → Turn (first_of two bytes) two at depth bytes ts r
turn two _ _ _ _ _ (ended at depth) = (refl, refl)
turn two _ _ _ _ _ (skipped at depth text rest ts r p l t) =
    subst (λ (o : Option (Piece × ℕ)). Turn o two at depth (text ++ rest) ts r) (sym (first-told two text rest piece.Between p l))
    (subst (λ (x : List ℕ). TokensFrom two (at + length text) depth x ts r) (sym (drop-append_seam text rest)) t)
turn two _ _ _ _ _ (taken at depth text rest k ts r p l w t) =
    subst (λ (o : Option (Piece × ℕ)). Turn o two at depth (text ++ rest) (lexeme_at k at (at + length text) ∷ ts) r) (sym (first-told two text rest (piece.Token k) p l))
    (subst (λ (o : Option TokenRefusal). TokenTurn o two at depth (length text) k (text ++ rest) (lexeme_at k at (at + length text) ∷ ts) r) (sym (ap (λ (x : List ℕ). over_limit depth k x) (take-append_seam text rest) ∙ w))
    (record { others = ts; whole = refl; tokens = subst (λ (x : List ℕ). TokensFrom two (at + length text) (depth_after depth k) x ts r) (sym (drop-append_seam text rest)) t }))
turn two _ _ _ _ _ (over at depth text rest k r p l w) =
    subst (λ (o : Option (Piece × ℕ)). Turn o two at depth (text ++ rest) (refused_at at ∷ []) (Some r)) (sym (first-told two text rest (piece.Token k) p l))
    (subst (λ (o : Option TokenRefusal). TokenTurn o two at depth (length text) k (text ++ rest) (refused_at at ∷ []) (Some r)) (sym (ap (λ (x : List ℕ). over_limit depth k x) (take-append_seam text rest) ∙ w))
    (refl, refl))
turn two _ _ _ _ _ (bad at depth bytes some none) =
    subst (λ (o : Option (Piece × ℕ)). Turn o two at depth bytes (refused_at at ∷ []) (Some refusal.BadByte)) (sym (none-first two bytes none)) (bad-turn at bytes some)

none-same : (at : ℕ) (bytes : List ℕ) (ts us : List Lexeme) (r s : Option TokenRefusal) → NoneTurn at bytes ts r → NoneTurn at bytes us s → SameTokens ts us r s
none-same at [] ts us r s p q = record { list = p.0 ∙ sym q.0; refused = p.1 ∙ sym q.1 }
none-same at (b ∷ rest) ts us r s p q = record { list = p.0 ∙ sym q.0; refused = p.1 ∙ sym q.1 }

-- the same of what is left, which is shorter
pub record Below (m : ℕ) : Type 0 where
  pub each : (two : Bool) (at depth : ℕ) (bytes : List ℕ) (ts us : List Lexeme) (r s : Option TokenRefusal) → length bytes < m → TokensFrom two at depth bytes ts r → TokensFrom two at depth bytes us s → SameTokens ts us r s

token-same : (o : Option TokenRefusal) (two : Bool) (at depth n : ℕ) (k : TokenKind) (bytes : List ℕ) (ts us : List Lexeme) (r s : Option TokenRefusal) → Below (length bytes) → length (drop n bytes) < length bytes
    → TokenTurn o two at depth n k bytes ts r → TokenTurn o two at depth n k bytes us s → SameTokens ts us r s
token-same (Some t) two at depth n k bytes ts us r s below less p q = record { list = p.0 ∙ sym q.0; refused = p.1 ∙ sym q.1 }
token-same None two at depth n k bytes ts us r s below less p q =
    let behind : SameTokens p.others q.others r s = below.each two (at + n) (depth_after depth k) (drop n bytes) p.others q.others r s less p.tokens q.tokens in
    record { list = p.whole ∙ ap (λ (l : List Lexeme). lexeme_at k at (at + n) ∷ l) behind.list ∙ sym q.whole; refused = behind.refused }

piece-same : (p : Piece) (two : Bool) (at depth n : ℕ) (bytes : List ℕ) (ts us : List Lexeme) (r s : Option TokenRefusal) → Below (length bytes) → length (drop n bytes) < length bytes
    → PieceTurn p two at depth n bytes ts r → PieceTurn p two at depth n bytes us s → SameTokens ts us r s
piece-same piece.Between two at depth n bytes ts us r s below less p q = below.each two (at + n) depth (drop n bytes) ts us r s less p q
piece-same (piece.Token k) two at depth n bytes ts us r s below less p q = token-same (over_limit depth k (take n bytes)) two at depth n k bytes ts us r s below less p q

turn-same : (o : Option (Piece × ℕ)) (two : Bool) (at depth : ℕ) (bytes : List ℕ) (ts us : List Lexeme) (r s : Option TokenRefusal) → first_of two bytes ≡ o → Below (length bytes)
    → Turn o two at depth bytes ts r → Turn o two at depth bytes us s → SameTokens ts us r s
turn-same None two at depth bytes ts us r s e below p q = none-same at bytes ts us r s p q
turn-same (Some f) two at depth bytes ts us r s e below p q =
    let first : IsFirst two bytes f.0 f.1 = first-is two bytes f.0 f.1 e in
    piece-same f.0 two at depth f.1 bytes ts us r s below (omega (arith, first.within, first.some, length-drop f.1 bytes)) p q

below : (m : ℕ) → Below m
below zero = record { each = λ two at depth bytes ts us r s less p q. absurd (omega arith) }
below (suc m) = record { each = λ two at depth bytes ts us r s less p q. here m (below m) two at depth bytes ts us r s less p q }
  where
    here : (m : ℕ) → Below m → (two : Bool) (at depth : ℕ) (bytes : List ℕ) (ts us : List Lexeme) (r s : Option TokenRefusal) → length bytes < suc m → TokensFrom two at depth bytes ts r → TokensFrom two at depth bytes us s → SameTokens ts us r s
    here m ih two at depth bytes ts us r s less p q =
        turn-same (first_of two bytes) two at depth bytes ts us r s refl (record { each = λ w a d l xs ys x y fewer t u. ih.each w a d l xs ys x y (omega arith) t u }) (turn two at depth bytes ts r p) (turn two at depth bytes us s q)

pub one-list : OneTokenListEach
one-list two bytes ts us r s p q = (below (suc (length bytes))).each two 0 0 bytes ts us r s (omega arith) p q
