-- Rows by their numbers.
use Rattle.std.proofs.Common.{◌≡◌, ℕ, suc, ◌<◌, Bool, true, false, cond, nat_eq, List, [], ◌∷◌, length, Option, Some, None, unwrap_or, slice_get, refl, sym, subst, ap, ◌∙◌, arith, inl, inr, All, IsSome, find, ◌⊎◌, eqb-true}
use Rattle.std.specs.Option.{option_map}
use Rattle.std.specs.List.{filter_map, cons_option}
use Rattle.std.proofs.lemmas.Bool.{false≢true}
use Rattle.std.proofs.lemmas.Option.{slice_get_within, get_or_from_slice_get, same_Some}
use Rattle.std.proofs.lemmas.List.Elements.{All-head, All-tail, All-get_or}
use Rattle.mars_tree.specs.Label.{arity_of}
use Rattle.mars_tree.specs.Graph.{arity_at}
use Rattle.mars_tree.proofs.CallerLemmas.{IsFinite}
use Rattle.mars_rows.specs.Rows.{Row, row_at, HasRow, kids_of_row, label_of_row}
use Rattle.mars_rows.specs.Sound.{AreClosed}

pub chosen : {A : Type 0} (b : Bool) (x y z : A) → cond b x y ≡ z → ((b ≡ true) × (x ≡ z)) ⊎ ((b ≡ false) × (y ≡ z))
chosen true x y z e = inl (refl, e)
chosen false x y z e = inr (refl, e)

pub some_of : {A : Type 0} (o : Option A) → IsSome o → (x : A) × (o ≡ Some x)
some_of None is = absurd (false≢true is)
some_of (Some x) is = (x, refl)

-- what is found passes the test
pub find_passes : {X : Type 0} (p : X → Bool) (xs : List X) (x : X) → find p xs ≡ Some x → p x ≡ true
find_passes p [] x e = cc
find_passes p (y ∷ xs) x e = elim (chosen (p y) (Some y) (find p xs) (Some x) e) [
  | inl w ↦ subst (λ z. p z ≡ true) (same_Some y x w.1) w.0
  | inr w ↦ find_passes p xs x w.1
]

-- where what is found passes another test, that finds something too
pub find_again : {X : Type 0} (p q : X → Bool) (xs : List X) (x : X) → find p xs ≡ Some x → q x ≡ true → IsSome (find q xs)
find_again p q [] x e t = cc
find_again {X = X} p q (y ∷ xs) x e t = elim (chosen (p y) (Some y) (find p xs) (Some x) e) [
  | inl w ↦
      let here : q y ≡ true = subst (λ z. q z ≡ true) (sym (same_Some y x w.1)) t in
      rw here refl
  | inr w ↦ either (q y) (Some y) (find q xs) refl (find_again p q xs x w.1 t)
]
  where
    either : (b : Bool) (a o : Option X) → IsSome a → IsSome o → IsSome (cond b a o)
    either true a o h i = h
    either false a o h i = i

-- what holds of each element holds of what is found
pub All-find : {X : Type 0} (P : X → Type 0) (p : X → Bool) (xs : List X) (x : X) → All P xs → find p xs ≡ Some x → P x
All-find P p [] x all e = cc
All-find P p (y ∷ xs) x all e = elim (chosen (p y) (Some y) (find p xs) (Some x) e) [
  | inl w ↦ subst P (same_Some y x w.1) (All-head P y xs all)
  | inr w ↦ All-find P p xs x (All-tail P y xs all) w.1
]

pub number_at : (rows : List Row) (h : ℕ) (row : Row) → row_at rows h ≡ Some row → row.number ≡ h
number_at rows h row e = eqb-true row.number h (find_passes (λ r. nat_eq r.number h) rows row e)

-- the place of a row in the list
abbrev pub place : List Row → ℕ → ℕ
place [] h = 0
place (row ∷ rows) h = cond (nat_eq row.number h) 0 (suc (place rows h))

place-below : (rows : List Row) (h : ℕ) → HasRow rows h → place rows h < length rows
place-below [] h is = absurd (false≢true is)
place-below (r ∷ rows) h is = step (nat_eq r.number h) (row_at rows h) (place rows h) (length rows) is (place-below rows h)
  where
    step : (b : Bool) (o : Option Row) (k n : ℕ) → IsSome (cond b (Some r) o) → (IsSome o → k < n) → cond b 0 (suc k) < suc n
    step true o k n is rest = omega arith
    step false o k n is rest = omega (arith, rest is)

place-apart : (rows : List Row) (h j : ℕ) → HasRow rows h → HasRow rows j → place rows h ≡ place rows j → h ≡ j
place-apart [] h j is js e = absurd (false≢true is)
place-apart (r ∷ rows) h j is js e =
    step (nat_eq r.number h) (nat_eq r.number j) (row_at rows h) (row_at rows j) (place rows h) (place rows j) (eqb-true r.number h) (eqb-true r.number j) is js (place-apart rows h j) e
  where
    step : (b c : Bool) (o p : Option Row) (k l : ℕ) → (b ≡ true → r.number ≡ h) → (c ≡ true → r.number ≡ j) → IsSome (cond b (Some r) o) → IsSome (cond c (Some r) p) → (IsSome o → IsSome p → k ≡ l → h ≡ j) → cond b 0 (suc k) ≡ cond c 0 (suc l) → h ≡ j
    step true true o p k l f g is js rest e = sym (f refl) ∙ g refl
    step true false o p k l f g is js rest e = absurd (omega arith)
    step false true o p k l f g is js rest e = absurd (omega arith)
    step false false o p k l f g is js rest e = rest is js (omega arith)

-- a kid is a row
pub kid_is_row : (rows : List Row) (h k kid : ℕ) → AreClosed rows → HasRow rows h → slice_get (kids_of_row rows h) k ≡ Some kid → HasRow rows kid
kid_is_row rows h k kid closed has e =
    let row = some_of (row_at rows h) has in
    let kids : kids_of_row rows h ≡ row.0.kids = ap (λ o. unwrap_or (option_map (λ row. row.kids) o) []) row.1 in
    let get : slice_get row.0.kids k ≡ Some kid = ap (λ xs. slice_get xs k) (sym kids) ∙ e in
    let all : All (HasRow rows) row.0.kids = All-find (λ row. All (HasRow rows) row.kids) (λ r. nat_eq r.number h) rows row.0 closed.kids row.1 in
    subst (HasRow rows) (get_or_from_slice_get row.0.kids k kid 0 get) (All-get_or (HasRow rows) row.0.kids k 0 (slice_get_within row.0.kids k kid get) all)

pub rows_are_finite : (rows : List Row) → AreClosed rows → IsFinite (kids_of_row rows) (HasRow rows) (place rows) (length rows)
rows_are_finite rows closed = record {
  stays = λ h kid k has e. kid_is_row rows h k kid closed has e;
  below = λ h has. place-below rows h has;
  apart = λ h j has has' e. place-apart rows h j has has' e;
}

-- a row has a label, and as many kids as that says
pub row_kids : (rows : List Row) (h : ℕ) → AreClosed rows → HasRow rows h → length (kids_of_row rows h) ≡ arity_at (label_of_row rows h)
row_kids rows h closed has =
    let row = some_of (row_at rows h) has in
    ap (λ o. length (unwrap_or (option_map (λ (row : Row). row.kids) o) [])) row.1
    ∙ All-find (λ row. length row.kids ≡ arity_of row.label) (λ r. nat_eq r.number h) rows row.0 closed.count row.1
    ∙ sym (ap (λ o. arity_at (option_map (λ (row : Row). row.label) o)) row.1)

-- where each gives something, none is left out
pub length-filter_map : {X Y : Type 0} (h : X → Option Y) (xs : List X) → All (λ x. IsSome (h x)) xs → length (filter_map h xs) ≡ length xs
length-filter_map h [] all = refl
length-filter_map h (x ∷ xs) all =
    let some = some_of (h x) (All-head (λ x. IsSome (h x)) x xs all) in
    ap (λ o. length (cons_option o (filter_map h xs))) some.1 ∙ ap suc (length-filter_map h xs (All-tail (λ x. IsSome (h x)) x xs all))
