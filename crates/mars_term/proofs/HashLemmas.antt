-- What names, tuples and dots write into a hash, by what their parts write.
use Rattle.std.proofs.Common.{◌≡◌, ℕ, pos, List, [], ◌∷◌, ◌++◌, length, take, ◌+◌, refl, ap, sym, ◌∙◌, append-nil}
use Rattle.std.proofs.lemmas.Grind.{flat_map-append}
use Rattle.std.specs.List.{flat_map, fold}
use Rattle.std.specs.Hash.{HashWrites, isize, usize, slice, fed_then}
use mathlib.Core.Former.{Count}
use denote.Hole.Carrier.{hidden}
use Rattle.mars_tree.specs.declared.label.NameId.{NameId}
use Rattle.mars_term.specs.declared.term.Term.{Term, Name, Name', Tup, Tup', Dot, Row_of-Term, end_of-Term, more_of-Term, items-the_row-Term, items_hidden-the_row-Term-0}
use Rattle.mars_term.specs.declared.term.Term.TheBlock.{shape-the_row-Term-1, hidden-the_row-Term-1}
use Rattle.mars_term.specs.TermEquality.{name_writes, term_writes, row_writes}

each_writes : (n : _) (row : Row_of-Term n) → row_writes row ≡ flat_map term_writes (items-the_row-Term n row)
each_writes n end_of-Term = refl
each_writes n (more_of-Term term row) = ap (λ (ws : HashWrites). term_writes term ++ ws) (each_writes _ row)

-- a row as the list of its terms
listed_writes : (n : _) (row : Row_of-Term n) (ts : List Term) → items-the_row-Term n row ≡ ts → usize (length (items-the_row-Term n row)) ++ row_writes row ≡ slice term_writes ts
listed_writes n row ts e =
    ap (λ (ws : HashWrites). usize (length (items-the_row-Term n row)) ++ ws) (each_writes n row) ∙ ap (λ (us : List Term). slice term_writes us) e

abbrev listed_row : Term → (n : Count) × Row_of-Term n
listed_row (Name' name shape row) = (_, row)
listed_row (Tup' shape row) = (_, row)
listed_row _ = (_, end_of-Term)

pub writes-Name : (name : NameId) (terms : List Term) → term_writes (Name name terms) ≡ isize (pos 2) ++ (name_writes name ++ slice term_writes terms)
writes-Name name terms =
    let row = listed_row (Name name terms) in
    ap (λ (ws : HashWrites). isize (pos 2) ++ (name_writes name ++ ws)) (listed_writes row.0 row.1 terms (items_hidden-the_row-Term-0 terms))

pub writes-Tup : (terms : List Term) → term_writes (Tup terms) ≡ isize (pos 3) ++ slice term_writes terms
writes-Tup terms =
    let row = listed_row (Tup terms) in
    ap (λ (ws : HashWrites). isize (pos 3) ++ ws) (listed_writes row.0 row.1 terms (items_hidden-the_row-Term-0 terms))

pub writes-Dot : (left right : Term) → term_writes (Dot left right) ≡ isize (pos 4) ++ (term_writes left ++ term_writes right)
unfolding shape-the_row-Term-1 hidden-the_row-Term-1 hidden
writes-Dot left right i = isize (pos 4) ++ (append-nil (term_writes left) i ++ append-nil (term_writes right) i)

module _ {S : Type 0} (write : S → List ℕ → S) where
  -- some writes, and then others
  pub fed_both : (s t u : S) (us vs ws : HashWrites) → ws ≡ us ++ vs → t ≡ fold write s us → u ≡ fold write t vs → u ≡ fold write s ws
  fed_both s t u us vs ws e f g = fed_then write s t u us vs f g ∙ ap (fold write s) (sym e)

  pub fed_name : (s t u : S) (name : NameId) (terms read : List Term) (term : Term) → term ≡ Name name terms → read ≡ terms →
      t ≡ fold write s (isize (pos 2) ++ name_writes name) → u ≡ fold write t (slice term_writes read) → u ≡ fold write s (term_writes term)
  fed_name s t u name terms read term is same f g =
      fed_both s t u (isize (pos 2) ++ name_writes name) (slice term_writes read) (term_writes term)
      (ap term_writes is ∙ writes-Name name terms ∙ ap (λ (ts : List Term). isize (pos 2) ++ (name_writes name ++ slice term_writes ts)) (sym same)) f g

  pub fed_tuple : (s t u : S) (terms read : List Term) (term : Term) → term ≡ Tup terms → read ≡ terms →
      t ≡ fold write s (isize (pos 3)) → u ≡ fold write t (slice term_writes read) → u ≡ fold write s (term_writes term)
  fed_tuple s t u terms read term is same f g =
      fed_both s t u (isize (pos 3)) (slice term_writes read) (term_writes term)
      (ap term_writes is ∙ writes-Tup terms ∙ ap (λ (ts : List Term). isize (pos 3) ++ slice term_writes ts) (sym same)) f g

  pub fed_dot : (s u : S) (left right first rest term : Term) → term ≡ Dot left right → first ≡ left → rest ≡ right →
      u ≡ fold write s (isize (pos 4) ++ (term_writes first ++ term_writes rest)) → u ≡ fold write s (term_writes term)
  fed_dot s u left right first rest term is same equal f =
      f ∙ (λ i. fold write s (isize (pos 4) ++ (term_writes (same i) ++ term_writes (equal i)))) ∙ ap (fold write s) (sym (ap term_writes is ∙ writes-Dot left right))

  -- the first part of a row is fed, and the rest is still to be fed
  pub fed_step : (s t u whole : S) (last left right first rest : Term) → last ≡ Dot left right → first ≡ left → rest ≡ right →
      t ≡ fold write s (isize (pos 4)) → u ≡ fold write t (term_writes first) → fold write s (term_writes last) ≡ whole → fold write u (term_writes rest) ≡ whole
  fed_step s t u whole last left right first rest is same equal f g before =
      fed_then write s u (fold write u (term_writes rest)) (isize (pos 4) ++ term_writes first) (term_writes rest) (fed_then write s t u (isize (pos 4)) (term_writes first) f g) refl
      ∙ fed_dot s (fold write s (isize (pos 4) ++ (term_writes first ++ term_writes rest))) left right first rest last is same equal refl
      ∙ before

  -- the last part of a row is fed
  pub fed_row : (s t u v w : S) (first rest last : Term) → t ≡ fold write s (isize (pos 4)) → u ≡ fold write t (term_writes first) →
      fold write v (term_writes last) ≡ fold write u (term_writes rest) → w ≡ fold write v (term_writes last) →
      w ≡ fold write s (isize (pos 4) ++ (term_writes first ++ term_writes rest))
  fed_row s t u v w first rest last f g before h =
      fed_then write s u w (isize (pos 4) ++ term_writes first) (term_writes rest) (fed_then write s t u (isize (pos 4)) (term_writes first) f g) (h ∙ before)

-- the writes of one term more
pub one_more_writes : (terms : List Term) (k : ℕ) (term : Term) → take (k + 1) terms ≡ take k terms ++ term ∷ [] →
    flat_map term_writes (take (k + 1) terms) ≡ flat_map term_writes (take k terms) ++ term_writes term
one_more_writes terms k term e =
    ap (flat_map term_writes) e ∙ flat_map-append term_writes (take k terms) (term ∷ [])
    ∙ ap (λ (ws : HashWrites). flat_map term_writes (take k terms) ++ ws) (append-nil (term_writes term))
