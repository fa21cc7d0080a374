-- Places of texts among names that are there already and names that are added, no two of which are the same.
use Rattle.std.proofs.Common.{◌≡◌, ℕ, ◌+◌, ◌<◌, ◌^◌, List, [], ◌++◌, length, Option, Some, None, Bool, get_or, slice_get, nat_eq, refl, sym, ap, ◌∙◌, arith}
use Rattle.std.specs.Option.{option_map}
use Rattle.std.specs.Cmp.Lexicographic.{pointwise}
use Rattle.std.proofs.lemmas.Option.{slice_get-get_or}
use Rattle.std.proofs.lemmas.List.Quantifiers.{position-Some}
use Rattle.std.proofs.lemmas.Bool.Decides.{Decides-eqb}
use Rattle.std.proofs.lemmas.Slice.Eq.{slice_eq-Decides}
use Rattle.mars_base.proofs.ListFacts.{get-append_after}
use Rattle.mars_tree.specs.Names.{place_of, AreDistinct}
use Rattle.mars_tree.proofs.NameLemmas.{place_after, place_of-append, missing_from, none_after}
use Rattle.mars_clauses.specs.Short.{in_32_bits}
use Rattle.mars_read.proofs.NameFacts.{short-same, place-within}

-- a text that has a place is there
pub has-place : (text : List ℕ) (names : List (List ℕ)) (j : ℕ) → place_of text names ≡ Some j → slice_get names j ≡ Some text
has-place text names j e =
    let p : List ℕ → Bool = λ name. pointwise nat_eq text name in
    let found = position-Some p names j [] e in
    let same : text ≡ get_or names j [] = (slice_eq-Decides Decides-eqb text (get_or names j []) (p (get_or names j [])) refl).0 found.1 in
    slice_get-get_or names j [] found.0 ∙ ap Some (sym same)

-- and where no two names are the same, it is nowhere else
pub place-at : (text : List ℕ) (names : List (List ℕ)) (i : ℕ) → AreDistinct names → slice_get names i ≡ Some text → place_of text names ≡ Some i
place-at text names i distinct at = by (place_of text names) refl
  where
    by : (o : Option ℕ) → place_of text names ≡ o → place_of text names ≡ Some i
    by None e = absurd (missing_from text names i e at)
    by (Some j) e = e ∙ ap Some (distinct j i text (has-place text names j e) at)

pub distinct-added : (known added : List (List ℕ)) → AreDistinct (known ++ added) → AreDistinct added
distinct-added known added distinct i j x a b =
    let e : length known + i ≡ length known + j = distinct (length known + i) (length known + j) x (get-append_after known added i ∙ a) (get-append_after known added j ∙ b) in
    omega (arith, e)

pub joined-place : (text : List ℕ) (known added : List (List ℕ)) (i : ℕ) → AreDistinct (known ++ added) → place_of text added ≡ Some i → place_of text (known ++ added) ≡ Some (length known + i)
joined-place text known added i distinct e = place-at text (known ++ added) (length known + i) distinct (get-append_after known added i ∙ has-place text added i e)

-- the number of a text that isn't among the added names
pub known-found : (text : List ℕ) (known added : List (List ℕ)) (o : Option ℕ) → place_of text known ≡ o → None ≡ place_of text added → length known < 2 ^ 32 → place_of text known ≡ option_map in_32_bits (place_of text (known ++ added))
known-found text known added o e missing few =
    by o e ∙ ap (λ p. option_map in_32_bits (place_after (length known) p None)) (sym e) ∙ ap (λ p. option_map in_32_bits (place_after (length known) (place_of text known) p)) missing ∙
    ap (option_map in_32_bits) (sym (place_of-append text known added))
  where
    by : (o : Option ℕ) → place_of text known ≡ o → place_of text known ≡ option_map in_32_bits (place_after (length known) o None)
    by None e = e
    by (Some n) e = e ∙ ap Some (short-same n (let l = place-within text known n e in omega (arith, l, few)))

pub missing-added : (text : List ℕ) (known added : List (List ℕ)) → place_of text (known ++ added) ≡ None → place_of text added ≡ None
missing-added text known added e = none_after (length known) (place_of text known) (place_of text added) (sym (place_of-append text known added) ∙ e)
