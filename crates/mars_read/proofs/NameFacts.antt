-- Numbers of names among those that were there and those that are added.
use Rattle.std.proofs.Common.{◌≡◌, ℕ, ◌+◌, ◌-◌, ◌^◌, ◌<◌, ◌≤◌, arith, Bool, true, length-append, List, [], ◌∷◌, ◌++◌, length, map, Option, Some, None, position, nat_eq, is_some, refl, sym, ap, ◌∙◌, if◌then◌else◌, append_assoc}
use Rattle.std.specs.Prelude.{unwrap_or, false}
use Rattle.std.specs.List.{list_any}
use Rattle.std.specs.Option.{option_map}
use Rattle.std.specs.Cmp.Lexicographic.{pointwise}
use Rattle.std.proofs.lemmas.List.{map-append}
use Rattle.std.proofs.lemmas.List.Quantifiers.{position-Some}
use Rattle.mars_tree.specs.Names.{place_of, name_number, with_text}
use Rattle.mars_tree.proofs.NameLemmas.{place_after, place_of-append, place_of-map, known_with-new, list_any-none}
use Rattle.mars_clauses.specs.Short.{in_32_bits}
use Rattle.mars_read.specs.Spellings.{added_with, with_texts}

pub known-place : (text : List ℕ) (known added : List (List ℕ)) (n : ℕ) → Some n ≡ place_of text known → place_of text (known ++ added) ≡ Some n
known-place text known added n e = place_of-append text known added ∙ ap (λ o. place_after (length known) o (place_of text added)) (sym e)

pub known-number : (text : List ℕ) (known added : List (List ℕ)) (n : ℕ) → Some n ≡ place_of text known → n ≡ name_number text (known ++ added)
known-number text known added n e = sym (ap (λ o. unwrap_or o (length (known ++ added))) (known-place text known added n e))

-- numbers that 32 bits hold are themselves
pub short-same : (n : ℕ) → n < 2 ^ 32 → n ≡ in_32_bits n
short-same n few = omega arith

pub place-within : (text : List ℕ) (names : List (List ℕ)) (n : ℕ) → place_of text names ≡ Some n → n < length names
place-within text names n e = (position-Some (λ (name : List ℕ). pointwise nat_eq text name) names n [] e).0

pub known-short : (text : List ℕ) (known added : List (List ℕ)) (n : ℕ) → Some n ≡ place_of text known → length known < 2 ^ 32 → n ≡ in_32_bits (name_number text (known ++ added))
known-short text known added n e few = short-same n (let l = place-within text known n (sym e) in omega (arith, l, few)) ∙ ap in_32_bits (known-number text known added n e)

-- a number is at most the next one
number-by : (o : Option ℕ) (text : List ℕ) (names : List (List ℕ)) → place_of text names ≡ o → unwrap_or o (length names) ≤ length names
number-by None text names e = omega arith
number-by (Some n) text names e = let l = place-within text names n e in omega (arith, l)

pub number-within : (text : List ℕ) (names : List (List ℕ)) → name_number text names ≤ length names
number-within text names = number-by (place_of text names) text names refl

pub number-found : (text : List ℕ) (names : List (List ℕ)) (n : ℕ) → Some n ≡ place_of text names → length names < 2 ^ 32 → n ≡ in_32_bits (name_number text names)
number-found text names n e few = short-same n (let l = place-within text names n (sym e) in omega (arith, l, few)) ∙ ap (λ (o : Option ℕ). in_32_bits (unwrap_or o (length names))) e

pub number-full : (text : List ℕ) (names : List (List ℕ)) → None ≡ place_of text names → 2 ^ 32 - 1 ≤ length names → 2 ^ 32 - 1 ≡ in_32_bits (name_number text names)
number-full text names e full = let same : in_32_bits (length names) ≡ in_32_bits (name_number text names) = ap (λ (o : Option ℕ). in_32_bits (unwrap_or o (length names))) e in omega (arith, same, full)

-- one name more at most
pub with_text-longer : (text : List ℕ) (names : List (List ℕ)) → length (with_text text names) ≤ length names + 1
with_text-longer text names = at (is_some (place_of text names))
  where
    at : (b : Bool) → length (if b then names else names ++ text ∷ []) ≤ length names + 1
    at true = omega arith
    at false = omega (arith, length-append names (text ∷ []))

pub listed-added : (text : List ℕ) (known added : List (List ℕ)) (n : ℕ) → place_of text (known ++ added) ≡ Some n → added ≡ added_with text known added
listed-added text known added n e = sym (ap (λ o. if is_some o then added else added ++ text ∷ []) e)

pub added-place : {X : Type 0} (text : List ℕ) (known : List (List ℕ)) (f : X → List ℕ) (xs : List X) (o : Option ℕ) → place_of text known ≡ None → o ≡ position (λ x. pointwise nat_eq text (f x)) xs →
    place_of text (known ++ map f xs) ≡ option_map (λ j. length known + j) o
added-place text known f xs o e at =
    place_of-append text known (map f xs) ∙ ap (λ p. place_after (length known) p (place_of text (map f xs))) e ∙
    ap (option_map (λ j. length known + j)) (place_of-map text f xs ∙ sym at)

pub added-number : {X : Type 0} (text : List ℕ) (known : List (List ℕ)) (f : X → List ℕ) (xs : List X) (i : ℕ) → place_of text known ≡ None → Some i ≡ position (λ x. pointwise nat_eq text (f x)) xs →
    name_number text (known ++ map f xs) ≡ length known + i
added-number text known f xs i e at = ap (λ o. unwrap_or o (length (known ++ map f xs))) (added-place text known f xs (Some i) e at)

pub new-number : {X : Type 0} (text : List ℕ) (known : List (List ℕ)) (f : X → List ℕ) (xs : List X) → place_of text known ≡ None → None ≡ position (λ x. pointwise nat_eq text (f x)) xs →
    name_number text (known ++ map f xs) ≡ length (known ++ map f xs)
new-number text known f xs e at = ap (λ o. unwrap_or o (length (known ++ map f xs))) (added-place text known f xs None e at)

pub new-added : {X : Type 0} (text : List ℕ) (known : List (List ℕ)) (f : X → List ℕ) (xs new : List X) (x : X) → place_of text known ≡ None → None ≡ position (λ y. pointwise nat_eq text (f y)) xs →
    new ≡ xs ++ x ∷ [] → f x ≡ text → map f new ≡ added_with text known (map f xs)
new-added text known f xs new x e at grown is =
    ap (map f) grown ∙ map-append f xs (x ∷ []) ∙ ap (λ t. map f xs ++ t ∷ []) is ∙
    sym (ap (λ o. if is_some o then map f xs else map f xs ++ text ∷ []) (added-place text known f xs None e at))

-- a text without a place is none of the list
pub absent : {X : Type 0} (text items : List ℕ) (f : X → List ℕ) (xs : List X) → items ≡ text → None ≡ position (λ x. pointwise nat_eq text (f x)) xs → list_any (λ x. pointwise nat_eq items (f x)) xs ≡ false
absent text items f xs is at = ap (λ t. list_any (λ x. pointwise nat_eq t (f x)) xs) is ∙ list_any-none (λ x. pointwise nat_eq text (f x)) xs (sym at)

-- texts are added one after the other
pub with_texts-push : (names texts : List (List ℕ)) (text : List ℕ) → with_texts names (texts ++ text ∷ []) ≡ with_text text (with_texts names texts)
with_texts-push names [] text = refl
with_texts-push names (first ∷ texts) text = with_texts-push (with_text first names) texts text

-- a name that is added is new
pub new-with : (text : List ℕ) (known added : List (List ℕ)) → with_texts known added ≡ known ++ added → with_texts known (added_with text known added) ≡ known ++ added_with text known added
new-with text known added e = by (place_of text (known ++ added)) refl
  where
    by : (o : Option ℕ) → place_of text (known ++ added) ≡ o → with_texts known (if is_some o then added else added ++ text ∷ []) ≡ known ++ (if is_some o then added else added ++ text ∷ [])
    by (Some n) at = e
    by None at = with_texts-push known added text ∙ ap (with_text text) e ∙ known_with-new text (known ++ added) at ∙ append_assoc known added (text ∷ [])
