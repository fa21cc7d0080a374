-- Places of texts in lists of names.
use Rattle.std.proofs.Common.{not, ◌&&◌, ◌||◌, append_assoc, if◌then◌else◌, ◌≡◌, ℕ, zero, suc, ◌+◌, ◌⊎◌, ◌<◌, List, [], ◌∷◌, ◌++◌, length, map, Option, Some, None, Bool, true, false, cond, slice_get, position, refl, sym, subst, ap, ◌∙◌, arith, is_some, inl, inr, nat_eq, append-nil, add-zero, zero-add}
use Rattle.std.proofs.lemmas.List.{map-append}
use Rattle.std.proofs.lemmas.Option.{slice_get_within}
use Rattle.std.proofs.lemmas.Bool.{true≢false}
use Rattle.std.proofs.lemmas.Bool.Decides.{Decides-eqb}
use Rattle.std.proofs.lemmas.Iterator.Adapters.{position_from-zero}
use Rattle.std.proofs.lemmas.Slice.Eq.{slice_eq-Decides}
use Rattle.std.specs.Cmp.Lexicographic.{pointwise}
use Rattle.std.specs.List.{position_from, list_any}
use Rattle.std.specs.Option.{option_map}
use Rattle.mars_base.proofs.ListFacts.{get-push}
use Rattle.mars_tree.specs.Names.{place_of, with_text, built_in_names, AreDistinct}

-- a place in the first list, else one in the second, which comes after
abbrev pub place_after : ℕ → Option ℕ → Option ℕ → Option ℕ
place_after n (Some i) other = Some i
place_after n None other = option_map (λ j. n + j) other

pub position_from-add : {X : Type 0} (p : X → Bool) (n k : ℕ) (xs : List X) → position_from p (n + k) xs ≡ option_map (λ j. n + j) (position_from p k xs)
position_from-add p n k [] = refl
position_from-add p n k (x ∷ xs) =
    let later : position_from p (n + k + 1) xs ≡ option_map (λ j. n + j) (position_from p (k + 1) xs) =
    ap (λ i. position_from p i xs) (let e : n + k + 1 ≡ n + (k + 1) = omega arith in e) ∙ position_from-add p n (k + 1) xs in
    by (p x) later
  where
    by : (b : Bool) → position_from p (n + k + 1) xs ≡ option_map (λ j. n + j) (position_from p (k + 1) xs) →
        cond b (Some (n + k)) (position_from p (n + k + 1) xs) ≡ option_map (λ j. n + j) (cond b (Some k) (position_from p (k + 1) xs))
    by true later = refl
    by false later = later

pub position_from-append : {X : Type 0} (p : X → Bool) (k : ℕ) (xs ys : List X) → position_from p k (xs ++ ys) ≡ place_after (k + length xs) (position_from p k xs) (position_from p 0 ys)
position_from-append p k [] ys = ap (λ i. position_from p i ys) (sym (add-zero k)) ∙ position_from-add p k 0 ys ∙ ap (λ i. option_map (λ j. i + j) (position_from p 0 ys)) (sym (add-zero k))
position_from-append p k (x ∷ xs) ys =
    by (p x) (position_from-append p (k + 1) xs ys ∙ ap (λ i. place_after i (position_from p (k + 1) xs) (position_from p 0 ys)) (let e : k + 1 + length xs ≡ k + suc (length xs) = omega arith in e))
  where
    by : (b : Bool) → position_from p (k + 1) (xs ++ ys) ≡ place_after (k + suc (length xs)) (position_from p (k + 1) xs) (position_from p 0 ys) →
        cond b (Some k) (position_from p (k + 1) (xs ++ ys)) ≡ place_after (k + suc (length xs)) (cond b (Some k) (position_from p (k + 1) xs)) (position_from p 0 ys)
    by true later = refl
    by false later = later

pub position_from-map : {X Y : Type 0} (p : Y → Bool) (f : X → Y) (k : ℕ) (xs : List X) → position_from p k (map f xs) ≡ position_from (λ x. p (f x)) k xs
position_from-map p f k [] = refl
position_from-map p f k (x ∷ xs) = ap (cond (p (f x)) (Some k)) (position_from-map p f (k + 1) xs)

pub place_of-append : (text : List ℕ) (xs ys : List (List ℕ)) → place_of text (xs ++ ys) ≡ place_after (length xs) (place_of text xs) (place_of text ys)
place_of-append text xs ys =
    let p : List ℕ → Bool = λ name. pointwise nat_eq text name in
    position_from-zero p (xs ++ ys) ∙ position_from-append p 0 xs ys ∙
    ap (λ i. place_after i (position_from p 0 xs) (position_from p 0 ys)) (zero-add (length xs)) ∙
    ap (λ o. place_after (length xs) o (position_from p 0 ys)) (sym (position_from-zero p xs)) ∙
    ap (λ o. place_after (length xs) (place_of text xs) o) (sym (position_from-zero p ys))

pub place_of-map : {X : Type 0} (text : List ℕ) (f : X → List ℕ) (xs : List X) → place_of text (map f xs) ≡ position (λ x. pointwise nat_eq text (f x)) xs
place_of-map text f xs =
    let p : List ℕ → Bool = λ name. pointwise nat_eq text name in
    position_from-zero p (map f xs) ∙ position_from-map p f 0 xs ∙ sym (position_from-zero (λ x. p (f x)) xs)

-- a text that isn't among the names
pub none_from : (text : List ℕ) (k : ℕ) (names : List (List ℕ)) (i : ℕ) → position_from (λ name. pointwise nat_eq text name) k names ≡ None → slice_get names i ≡ Some text → ⊥
none_from text k [] i missing at = absurd (let e : None ≡ Some text = at in cc)
none_from text k (name ∷ names) zero missing at =
    let same : pointwise nat_eq text name ≡ true = (slice_eq-Decides Decides-eqb text name (pointwise nat_eq text name) refl).1 (let e : Some name ≡ Some text = at in cc) in
    absurd (let e : ◌≡◌ {A = Option ℕ} (cond true (Some k) (position_from (λ name. pointwise nat_eq text name) (k + 1) names)) None = ap (λ b. cond b (Some k) (position_from (λ name. pointwise nat_eq text name) (k + 1) names)) (sym same) ∙ missing in cc)
none_from text k (name ∷ names) (suc i) missing at = by (pointwise nat_eq text name) missing (λ e. none_from text (k + 1) names i e at)
  where
    by : (b : Bool) → cond b (Some k) (position_from (λ name. pointwise nat_eq text name) (k + 1) names) ≡ None → (position_from (λ name. pointwise nat_eq text name) (k + 1) names ≡ None → ⊥) → ⊥
    by true e later = absurd cc
    by false e later = later e

pub missing_from : (text : List ℕ) (names : List (List ℕ)) (i : ℕ) → place_of text names ≡ None → slice_get names i ≡ Some text → ⊥
missing_from text names i missing at = none_from text 0 names i (sym (position_from-zero (λ name. pointwise nat_eq text name) names) ∙ missing) at

-- an entry of a list with one more at its end
pub slice_get-push : {X : Type 0} (xs : List X) (y : X) (i : ℕ) (x : X) → slice_get (xs ++ y ∷ []) i ≡ Some x → ((slice_get xs i ≡ Some x) × (i < length xs)) ⊎ ((i ≡ length xs) × (y ≡ x))
slice_get-push xs y i x at = elim (get-push xs y i x at) [
  | inl before ↦ inl (before, slice_get_within xs i x before)
  | inr last ↦ inr last
]

pub distinct-push : (names : List (List ℕ)) (text : List ℕ) → AreDistinct names → place_of text names ≡ None → AreDistinct (names ++ text ∷ [])
distinct-push names text distinct missing i j t at other = elim (get-push names text i t at) [
  | inl before ↦ elim (get-push names text j t other) [
    | inl earlier ↦ distinct i j t before earlier
    | inr last ↦ absurd (missing_from text names i missing (before ∙ ap Some (sym last.1)))
  ]
  | inr last ↦ elim (get-push names text j t other) [
    | inl earlier ↦ absurd (missing_from text names j missing (earlier ∙ ap Some (sym last.1)))
    | inr end ↦ last.0 ∙ sym end.0
  ]
]

-- texts that are found at their own places only are distinct
pub distinct_from_places : (names : List (List ℕ)) → ((i : ℕ) (text : List ℕ) → slice_get names i ≡ Some text → place_of text names ≡ Some i) → AreDistinct names
distinct_from_places names own i j text at other = let e : Some i ≡ Some j = sym (own i text at) ∙ own j text other in cc

-- the place of a text among the built-in names and those that were added
pub place_of-names : {X : Type 0} (text : List ℕ) (f : X → List ℕ) (xs : List X) (names : List (List ℕ)) → built_in_names ++ map f xs ≡ names →
    place_of text names ≡ place_after 13 (place_of text built_in_names) (position (λ x. pointwise nat_eq text (f x)) xs)
unfolding built_in_names
place_of-names text f xs names is =
    ap (place_of text) (sym is) ∙ place_of-append text built_in_names (map f xs) ∙ ap (place_after 13 (place_of text built_in_names)) (place_of-map text f xs)

-- each text is new after those before it
abbrev pub are_new : List (List ℕ) → List (List ℕ) → Bool
are_new known [] = true
are_new known (text ∷ texts) = not (is_some (place_of text known)) && are_new (known ++ text ∷ []) texts

pub distinct_from_new : (known texts : List (List ℕ)) → AreDistinct known → are_new known texts ≡ true → AreDistinct (known ++ texts)
distinct_from_new known [] distinct new = subst (λ (names : List (List ℕ)). AreDistinct names) (sym (append-nil known)) distinct
distinct_from_new known (text ∷ texts) distinct new =
    by (place_of text known) refl new (distinct_from_new (known ++ text ∷ []) texts)
  where
    by : (o : Option ℕ) → place_of text known ≡ o → not (is_some o) && are_new (known ++ text ∷ []) texts ≡ true →
        (AreDistinct (known ++ text ∷ []) → are_new (known ++ text ∷ []) texts ≡ true → AreDistinct ((known ++ text ∷ []) ++ texts)) → AreDistinct (known ++ (text ∷ texts))
    by (Some i) found e later = absurd (true≢false (sym e))
    by None missing e later = subst (λ (names : List (List ℕ)). AreDistinct names) (append_assoc known (text ∷ []) texts) (later (distinct-push known text distinct missing) e)

pub built_in_distinct : AreDistinct built_in_names
unfolding built_in_names
built_in_distinct = distinct_from_new [] built_in_names (λ i j text at other. absurd (let e : None ≡ Some text = at in cc)) refl

-- the names after a text was added, and nothing else changed
pub names-added : {X : Type 0} (text : List ℕ) (f : X → List ℕ) (old new : List X) (names : List (List ℕ)) (x : X) →
    built_in_names ++ map f old ≡ names → new ≡ old ++ x ∷ [] → f x ≡ text → built_in_names ++ map f new ≡ names ++ text ∷ []
names-added text f old new names x is grown at =
    ap (λ xs. built_in_names ++ map f xs) grown ∙ ap (λ xs. built_in_names ++ xs) (map-append f old (x ∷ [])) ∙
    ap (λ t. built_in_names ++ (map f old ++ t ∷ [])) at ∙ sym (append_assoc built_in_names (map f old) (text ∷ [])) ∙ ap (λ xs. xs ++ text ∷ []) is

-- where a text is new, the names with it
pub known_with-new : (text : List ℕ) (names : List (List ℕ)) → place_of text names ≡ None → with_text text names ≡ names ++ text ∷ []
known_with-new text names missing = ap (λ o. if is_some o then names else names ++ text ∷ []) missing

-- a list without a place has no such member
pub list_any_from-none : {X : Type 0} (p : X → Bool) (k : ℕ) (xs : List X) → position_from p k xs ≡ None → list_any p xs ≡ false
list_any_from-none p k [] missing = refl
list_any_from-none p k (x ∷ xs) missing = by (p x) missing (list_any_from-none p (k + 1) xs)
  where
    by : (b : Bool) → cond b (Some k) (position_from p (k + 1) xs) ≡ None → (position_from p (k + 1) xs ≡ None → list_any p xs ≡ false) → (b || list_any p xs) ≡ false
    by true e later = absurd cc
    by false e later = later e

pub list_any-none : {X : Type 0} (p : X → Bool) (xs : List X) → position p xs ≡ None → list_any p xs ≡ false
list_any-none p xs missing = list_any_from-none p 0 xs (sym (position_from-zero p xs) ∙ missing)

pub none_after : (n : ℕ) (o other : Option ℕ) → place_after n o other ≡ None → other ≡ None
none_after n (Some i) other missing = absurd cc
none_after n None (Some j) missing = absurd cc
none_after n None None missing = refl

-- a text that isn't listed at all isn't among those that were added
pub new_among_added : {X : Type 0} (text : List ℕ) (f : X → List ℕ) (old : List X) (names : List (List ℕ)) → built_in_names ++ map f old ≡ names → place_of text names ≡ None →
    list_any (λ x. pointwise nat_eq text (f x)) old ≡ false
new_among_added text f old names is missing =
    list_any-none (λ x. pointwise nat_eq text (f x)) old
    (none_after 13 (place_of text built_in_names) (position (λ x. pointwise nat_eq text (f x)) old) (sym (place_of-names text f old names is) ∙ missing))
