-- The first piece by its first byte is the longest, and the only one that can come first.
use Rattle.std.proofs.Common.{◌≡◌, ℕ, ◌≤◌, ◌<◌, List, ◌++◌, length, take, drop, refl, ap, sym, ◌∙◌, subst, Bool, arith, Option, Some, None, length-take-le, take-append-drop}
use Rattle.mars_tokens.specs.declared.pieces.Piece.{Piece}
use Rattle.mars_tokens.specs.Pieces.{IsPiece, IsLongestPiece, BeginsNoPiece}
use Rattle.mars_tokens.specs.PiecesInside.{first_of}
use Rattle.mars_tokens.proofs.Covering.{Covers, covers}
use Rattle.mars_tokens.proofs.Sounding.{Sound, sound}

-- the first piece, the longest there
pub record IsFirst (two : Bool) (bytes : List ℕ) (p : Piece) (n : ℕ) : Type 0 where
  pub within : n ≤ length bytes
  pub some : 0 < n
  pub piece : IsPiece two (take n bytes) p
  pub longest : IsLongestPiece two (take n bytes) (drop n bytes)

pub first-is : (two : Bool) (bytes : List ℕ) (p : Piece) (n : ℕ) → first_of two bytes ≡ Some (p, n) → IsFirst two bytes p n
first-is two bytes p n e =
    let found : Sound two bytes (Some (p, n)) = subst (λ (o : Option (Piece × ℕ)). Sound two bytes o) e (sound two bytes) in
    record {
      within = found.0;
      some = found.1;
      piece = found.2;
      longest = λ front back q whole is.
          let same : front ++ back ≡ bytes = whole ∙ take-append-drop n bytes in
          let cover : Covers (Some (p, n)) q (length front) = subst (λ (o : Option (Piece × ℕ)). Covers o q (length front)) (ap (λ (l : List ℕ). first_of two l) same ∙ e) (covers two front q is back) in
          omega (arith, cover.0, length-take-le n bytes found.0);
    }

pub first-none : (two : Bool) (bytes : List ℕ) → first_of two bytes ≡ None → BeginsNoPiece two bytes
first-none two bytes e front back q whole is = subst (λ (o : Option (Piece × ℕ)). Covers o q (length front)) (ap (λ (l : List ℕ). first_of two l) whole ∙ e) (covers two front q is back)

pub none-first : (two : Bool) (bytes : List ℕ) → BeginsNoPiece two bytes → first_of two bytes ≡ None
none-first two bytes none = at (first_of two bytes) refl
  where
    at : (o : Option (Piece × ℕ)) → first_of two bytes ≡ o → o ≡ None
    at None e = refl
    at (Some f) e =
        let first : IsFirst two bytes f.0 f.1 = first-is two bytes f.0 f.1 e in
        absurd (none (take f.1 bytes) (drop f.1 bytes) f.0 (take-append-drop f.1 bytes) first.piece)

pub first-told : (two : Bool) (text rest : List ℕ) (p : Piece) → IsPiece two text p → IsLongestPiece two text rest → first_of two (text ++ rest) ≡ Some (p, length text)
first-told two text rest p is longest = at (first_of two (text ++ rest)) refl
  where
    at : (o : Option (Piece × ℕ)) → first_of two (text ++ rest) ≡ o → o ≡ Some (p, length text)
    at None e = absurd (first-none two (text ++ rest) e text rest p refl is)
    at (Some f) e =
        let cover : Covers (Some f) p (length text) = subst (λ (o : Option (Piece × ℕ)). Covers o p (length text)) e (covers two text p is rest) in
        let first : IsFirst two (text ++ rest) f.0 f.1 = first-is two (text ++ rest) f.0 f.1 e in
        let below : length (take f.1 (text ++ rest)) ≤ length text = longest (take f.1 (text ++ rest)) (drop f.1 (text ++ rest)) f.0 (take-append-drop f.1 (text ++ rest)) first.piece in
        let short : f.1 ≤ length text = omega (arith, below, length-take-le f.1 (text ++ rest) first.within) in
        let size : f.1 ≡ length text = omega (arith, short, cover.0) in
        ap (λ (q : Piece). Some (q, f.1)) (cover.1 short) ∙ ap (λ (n : ℕ). Some (p, n)) size

-- the same at a place, as the code finds it
pub told-first : (two : Bool) (bytes rest : List ℕ) (at : ℕ) (o : Option (Piece × ℕ)) (f : Piece × ℕ) (p : Piece) → rest ≡ drop at bytes → o ≡ first_of two rest → o ≡ Some f → f.0 ≡ p → first_of two (drop at bytes) ≡ Some (p, f.1)
told-first two bytes rest at o f p e is some same = ap (λ (l : List ℕ). first_of two l) (sym e) ∙ sym is ∙ some ∙ ap (λ (q : Piece). Some (q, f.1)) same

pub told-none : (two : Bool) (bytes rest : List ℕ) (at : ℕ) (o : Option (Piece × ℕ)) → rest ≡ drop at bytes → o ≡ first_of two rest → o ≡ None → first_of two (drop at bytes) ≡ None
told-none two bytes rest at o e is none = ap (λ (l : List ℕ). first_of two l) (sym e) ∙ sym is ∙ none
