-- Numbers of spellings in lists of names that grow.
use Rattle.std.proofs.Common.{◌≡◌, ℕ, suc, ◌+◌, ◌-◌, ◌^◌, ◌<◌, ◌≤◌, nat_lt, length-append, List, [], ◌∷◌, ◌++◌, length, refl, sym, subst, ap, ◌∙◌, arith, Bool, true, false, cond, Option, Some, None, slice_get, is_some, nat_eq, append-nil, append_assoc, if◌then◌else◌}
use Rattle.std.specs.Prelude.{unwrap_or}
use Rattle.std.specs.List.{position_from}
use Rattle.std.specs.Option.{option_map}
use Rattle.std.specs.Cmp.Lexicographic.{pointwise}
use Rattle.std.proofs.lemmas.Bool.Decides.{Decides-eqb, nat_tests}
use Rattle.std.proofs.lemmas.Iterator.Adapters.{position_from-zero}
use Rattle.std.proofs.lemmas.Slice.Eq.{slice_eq-Decides}
use Rattle.std.proofs.lemmas.Option.{slice_get-get_or, slice_get_within}
use Rattle.mars_tree.specs.declared.label.NameId.{NameId}
use Rattle.mars_tree.specs.Names.{AreDistinct, place_of, name_number, with_text, spelling}
use Rattle.mars_clauses.specs.Short.{in_32_bits}
use Rattle.mars_read.specs.Spellings.{with_text_if_room}
use Rattle.mars_tree.proofs.NameLemmas.{place_after, place_of-append, missing_from}

some_none : (k : ℕ) → ◌≡◌ {A = Option ℕ} None (Some k) → ⊥
some_none k e = cc

found_from : (text : List ℕ) (k : ℕ) (names : List (List ℕ)) (j : ℕ) → position_from (λ name. pointwise nat_eq text name) k names ≡ Some j → (i : ℕ) × (j ≡ k + i) × (slice_get names i ≡ Some text)
found_from text k [] j e = absurd (some_none j e)
found_from text k (name ∷ names) j e = by (pointwise nat_eq text name) refl e (λ f. found_from text (k + 1) names j f)
  where
    by : (v : Bool) → pointwise nat_eq text name ≡ v → cond v (Some k) (position_from (λ name. pointwise nat_eq text name) (k + 1) names) ≡ Some j →
        (position_from (λ name. pointwise nat_eq text name) (k + 1) names ≡ Some j → (i : ℕ) × (j ≡ k + 1 + i) × (slice_get names i ≡ Some text)) → (i : ℕ) × (j ≡ k + i) × (slice_get (name ∷ names) i ≡ Some text)
    by true same e later = (0, let here : k ≡ j = cc in omega (arith, here), ap Some (sym ((slice_eq-Decides Decides-eqb text name true (sym same)).0 refl)))
    by false other e later = let t = later e in (suc t.0, omega (arith, t.1), t.2)

-- the place of a text has it
pub place_has : (text : List ℕ) (names : List (List ℕ)) (j : ℕ) → place_of text names ≡ Some j → slice_get names j ≡ Some text
place_has text names j e =
    let t = found_from text 0 names j (sym (position_from-zero (λ name. pointwise nat_eq text name) names) ∙ e) in
    let same : j ≡ t.0 = omega (arith, t.1) in
    subst (λ i. slice_get names i ≡ Some text) (sym same) t.2

-- among names that are apart, a spelling's place is its number
pub own_place : (names : List (List ℕ)) (id : NameId) → AreDistinct names → id.0 < length names → place_of (spelling names id) names ≡ Some id.0
own_place names id distinct id_in = by (place_of (spelling names id) names) refl
  where
    here : slice_get names id.0 ≡ Some (spelling names id)
    here = slice_get-get_or names id.0 [] id_in

    by : (o : Option ℕ) → place_of (spelling names id) names ≡ o → o ≡ Some id.0
    by None e = absurd (missing_from (spelling names id) names id.0 e here)
    by (Some j) e = ap Some (distinct j id.0 (spelling names id) (place_has (spelling names id) names j e) here)

pub own_number : (names : List (List ℕ)) (id : NameId) → AreDistinct names → id.0 < length names → name_number (spelling names id) (names ++ []) ≡ id.0
own_number names id distinct id_in = ap (λ (l : List (List ℕ)). unwrap_or (place_of (spelling names id) l) (length l)) (append-nil names) ∙ ap (λ o. unwrap_or o (length names)) (own_place names id distinct id_in)

-- a list that begins with another
abbrev pub Extends : List (List ℕ) → List (List ℕ) → Type 0
Extends vars all = (more : List (List ℕ)) × (all ≡ vars ++ more)

pub extends_all : (vars : List (List ℕ)) → Extends vars vars
extends_all vars = ([], sym (append-nil vars))

pub extends_further : (a b c : List (List ℕ)) → Extends a b → Extends b c → Extends a c
extends_further a b c x y = (x.0 ++ y.0, y.1 ∙ ap (λ l. l ++ y.0) x.1 ∙ append_assoc a x.0 y.0)

pub extends_text : (text : List ℕ) (vars : List (List ℕ)) → Extends vars (with_text text vars)
extends_text text vars = by (is_some (place_of text vars))
  where
    by : (v : Bool) → Extends vars (if v then vars else vars ++ text ∷ [])
    by true = extends_all vars
    by false = (text ∷ [], refl)

-- a place in a list is that in a longer one
pub place_later : (text : List ℕ) (vars more : List (List ℕ)) (n : ℕ) → place_of text vars ≡ Some n → place_of text (vars ++ more) ≡ Some n
place_later text vars more n e = place_of-append text vars more ∙ ap (λ o. place_after (length vars) o (place_of text more)) e

itself : (text : List ℕ) → pointwise nat_eq text text ≡ true
itself text = (slice_eq-Decides Decides-eqb text text (pointwise nat_eq text text) refl).1 refl

alone : (text : List ℕ) → place_of text (text ∷ []) ≡ Some 0
alone text = position_from-zero (λ name. pointwise nat_eq text name) (text ∷ []) ∙ ap (λ (v : Bool). cond v (Some 0) None) (itself text)

-- the place of a text in a list with it is its number before
pub placed_with : (text : List ℕ) (vars : List (List ℕ)) → place_of text (with_text text vars) ≡ Some (name_number text vars)
placed_with text vars = by (place_of text vars) refl
  where
    by : (o : Option ℕ) → place_of text vars ≡ o → place_of text (if is_some o then vars else vars ++ text ∷ []) ≡ Some (unwrap_or o (length vars))
    by (Some n) e = e
    by None e = place_of-append text vars (text ∷ []) ∙ ap (λ o. place_after (length vars) o (place_of text (text ∷ []))) e ∙ ap (λ o. option_map (λ j. length vars + j) o) (alone text) ∙ ap Some (let same : length vars + 0 ≡ length vars = omega arith in same)

-- so is its place in a list that begins with this one
pub number_later : (text : List ℕ) (vars all : List (List ℕ)) → Extends (with_text text vars) all → name_number text vars ≡ name_number text all
number_later text vars all x =
    sym (ap (λ (l : List (List ℕ)). unwrap_or (place_of text l) (length l)) x.1 ∙ ap (λ o. unwrap_or o (length (with_text text vars ++ x.0))) (place_later text (with_text text vars) x.0 (name_number text vars) (placed_with text vars)))

-- texts that are there have numbers of their own
pub number_apart : (a b : List ℕ) (vars : List (List ℕ)) (i j : ℕ) → place_of a vars ≡ Some i → place_of b vars ≡ Some j → name_number a vars ≡ name_number b vars → a ≡ b
number_apart a b vars i j e f same =
    let left : name_number a vars ≡ i = ap (λ o. unwrap_or o (length vars)) e in
    let right : name_number b vars ≡ j = ap (λ o. unwrap_or o (length vars)) f in
    let one : i ≡ j = sym left ∙ same ∙ right in
    let both : Some a ≡ Some b = sym (place_has a vars i e) ∙ ap (slice_get vars) one ∙ place_has b vars j f in
    cc

-- numbers that 32 bits hold are themselves
pub short : (n : ℕ) → n < 2 ^ 32 → in_32_bits n ≡ n
short n few = omega arith

number_by : (o : Option ℕ) (text : List ℕ) (names : List (List ℕ)) → place_of text names ≡ o → unwrap_or o (length names) ≤ length names
number_by None text names e = omega arith
number_by (Some n) text names e = let lt : n < length names = slice_get_within names n text (place_has text names n e) in omega (arith, lt)

-- the number of a spelling, where there is room for one more
pub short_number_of : (text : List ℕ) (names : List (List ℕ)) → length names < 2 ^ 32 - 1 → in_32_bits (name_number text names) ≡ name_number text names
short_number_of text names room = short (name_number text names) (omega (arith, room, number_by (place_of text names) text names refl))

pub roomy : (text : List ℕ) (names : List (List ℕ)) → length names < 2 ^ 32 - 1 → with_text_if_room text names ≡ with_text text names
roomy text names room = let yes : nat_lt (length names) (2 ^ 32 - 1) ≡ true = grind (arith, nat_tests, room) in ap (λ (b : Bool). if b then with_text text names else names) yes

-- at most one more
pub text_longer : (text : List ℕ) (names : List (List ℕ)) → length (with_text text names) ≤ length names + 1
text_longer text names = at (is_some (place_of text names))
  where
    at : (b : Bool) → length (if b then names else names ++ text ∷ []) ≤ length names + 1
    at true = omega arith
    at false = omega (arith, length-append names (text ∷ []))
