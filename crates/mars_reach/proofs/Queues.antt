-- What a walk over a queue has met.
use Rattle.std.proofs.Common.{◌≡◌, ℕ, zero, suc, ◌+◌, ◌||◌, Bool, true, false, cond, nat_eq, List, [], ◌∷◌, ◌++◌, length, Some, None, position, nat_lt, slice_get, refl, sym, subst, ap, ◌∙◌, arith, inl, inr, All, Contains, eq-eqb, ne_eqb}
use Rattle.std.specs.List.{flat_map, list_any, position_or_len}
use Rattle.std.proofs.lemmas.Bool.{cases_eq, eqb-true}
use Rattle.std.proofs.lemmas.Map.Views.{Contains-from_any}
use Rattle.std.proofs.lemmas.Option.{same_Some, option_and_then_some}
use Rattle.std.proofs.lemmas.List.Recursion.{is_position_or_len}
use Rattle.std.proofs.lemmas.List.Folds.{list_any-append}
use Rattle.std.proofs.lemmas.List.Elements.{Contains-append_left, Contains-append_right}
use Rattle.mars_tree.specs.Walk.{walk}
use Rattle.mars_tree.specs.Graph.{Node, kids_of, end_of}
use Rattle.mars_reach.specs.Order.{met_after, with_number, place_in, IsQueue}
use Rattle.mars_reach.specs.Part.{IsClosed}
use Rattle.mars_reach.proofs.Numbers.{contains_at, at_contains, All-from_gets}

-- what is listed is met
any_true : (a b : Bool) → b ≡ true → (a || b) ≡ true
any_true true b e = refl
any_true false b e = e

in_with : (met : List ℕ) (x y : ℕ) → list_any (nat_eq y) met ≡ true → list_any (nat_eq y) (with_number met x) ≡ true
in_with met x y e = either (list_any (nat_eq x) met)
  where
    either : (b : Bool) → list_any (nat_eq y) (cond b met (met ++ x ∷ [])) ≡ true
    either true = e
    either false = list_any-append (nat_eq y) met (x ∷ []) ∙ ap (λ b. b || list_any (nat_eq y) (x ∷ [])) e

last_in : (xs : List ℕ) (x : ℕ) → list_any (nat_eq x) (xs ++ x ∷ []) ≡ true
last_in xs x = list_any-append (nat_eq x) xs (x ∷ []) ∙ any_true (list_any (nat_eq x) xs) (list_any (nat_eq x) (x ∷ [])) (ap (λ b. b || false) (eq-eqb x x refl))

with_in : (met : List ℕ) (x : ℕ) → list_any (nat_eq x) (with_number met x) ≡ true
with_in met x = either (list_any (nat_eq x) met) refl
  where
    either : (b : Bool) → list_any (nat_eq x) met ≡ b → list_any (nat_eq x) (cond b met (met ++ x ∷ [])) ≡ true
    either true e = e
    either false e = last_in met x

met_keeps : (met xs : List ℕ) (y : ℕ) → list_any (nat_eq y) met ≡ true → list_any (nat_eq y) (met_after met xs) ≡ true
met_keeps met [] y e = e
met_keeps met (x ∷ xs) y e = met_keeps (with_number met x) xs y (in_with met x y e)

met_has : (met xs : List ℕ) (k y : ℕ) → slice_get xs k ≡ Some y → list_any (nat_eq y) (met_after met xs) ≡ true
met_has met [] k y e = cc
met_has met (x ∷ xs) zero y e = met_keeps (with_number met x) xs y (subst (λ (z : ℕ). list_any (nat_eq z) (with_number met x) ≡ true) (same_Some x y e) (with_in met x))
met_has met (x ∷ xs) (suc k) y e = met_has (with_number met x) xs k y e

-- an element of each list is one of all lists
in_flat_map : (f : ℕ → List ℕ) (ns : List ℕ) (j n x : ℕ) → slice_get ns j ≡ Some n → Contains (f n) x → Contains (flat_map f ns) x
in_flat_map f [] j n x at there = cc
in_flat_map f (m ∷ ns) zero n x at there = Contains-append_left (f m) (flat_map f ns) x (subst (λ (i : ℕ). Contains (f i) x) (sym (same_Some m n at)) there)
in_flat_map f (m ∷ ns) (suc j) n x at there = Contains-append_right (f m) (flat_map f ns) x (in_flat_map f ns j n x at there)

-- the place of an element
place_at : (xs : List ℕ) (x k : ℕ) → slice_get xs k ≡ Some x → slice_get xs (place_in xs x) ≡ Some x
place_at [] x k e = cc
place_at (y ∷ xs) x zero e = ap (λ b. slice_get (y ∷ xs) (cond b 0 (suc (place_in xs x)))) (eq-eqb y x (same_Some y x e)) ∙ e
place_at (y ∷ xs) x (suc k) e = elim (cases_eq y x) [
  | inl same ↦ ap (λ b. slice_get (y ∷ xs) (cond b 0 (suc (place_in xs x)))) (eq-eqb y x same) ∙ ap (λ z. Some z) same
  | inr other ↦ ap (λ b. slice_get (y ∷ xs) (cond b 0 (suc (place_in xs x)))) (ne_eqb y x other) ∙ place_at xs x k e
]

pub place_get : (xs : List ℕ) (x : ℕ) → Contains xs x → slice_get xs (place_in xs x) ≡ Some x
place_get xs x there = let at = at_contains xs x there in place_at xs x at.0 at.1

module _ (g : List Node) (roots order : List ℕ) (queue : IsQueue g roots order) where
  met_listed : (x : ℕ) → Contains (roots ++ flat_map (kids_of g) order) x → Contains order x
  met_listed x there =
      let at = at_contains (roots ++ flat_map (kids_of g) order) x there in
      Contains-from_any (λ x y e. eqb-true x y e) x order (subst (λ (xs : List ℕ). list_any (nat_eq x) xs ≡ true) queue.whole (met_has [] (roots ++ flat_map (kids_of g) order) at.0 x at.1))

  -- a walk over a queue meets the roots
  pub root_met : (root : ℕ) → Contains roots root → Contains order root
  root_met root there = met_listed root (Contains-append_left roots (flat_map (kids_of g) order) root there)

  pub roots_met : All (Contains order) roots
  roots_met = All-from_gets (Contains order) roots (λ k root e. root_met root (contains_at roots k root e))

  -- and the kids of all that it meets
  pub kid_met : (n k kid : ℕ) → Contains order n → slice_get (kids_of g n) k ≡ Some kid → Contains order kid
  kid_met n k kid there e =
      let at = at_contains order n there in
      met_listed kid (Contains-append_right roots (flat_map (kids_of g) order) kid (in_flat_map (kids_of g) order at.0 n kid at.1 (contains_at (kids_of g n) k kid e)))

  pub queue_closed : IsClosed g order
  queue_closed = All-from_gets (λ n. All (Contains order) (kids_of g n)) order (λ j n at. All-from_gets (Contains order) (kids_of g n) (λ k kid e. kid_met n k kid (contains_at order j n at) e))

  -- and the ends of all paths
  pub end_met : (path : List ℕ) (n m : ℕ) → Contains order n → end_of g n path ≡ Some m → Contains order m
  end_met [] n m there e = subst (Contains order) (same_Some n m e) there
  end_met (k ∷ path) n m there e =
      option_and_then_some (λ x. walk (kids_of g) x path) (slice_get (kids_of g n) k) m e (λ x first rest. end_met path x m (kid_met n k x there first) rest)

-- the place that a search finds is that of the number
place_first : (xs : List ℕ) (x : ℕ) → place_in xs x ≡ position_or_len (nat_eq x) xs
place_first xs x = is_position_or_len (λ ys. place_in ys x) (nat_eq x) refl (λ y ys. ap (λ b. cond b 0 (suc (place_in ys x))) (turned y) ∙ ap (λ n. cond (nat_eq x y) 0 n) (let e : suc (place_in ys x) ≡ 1 + place_in ys x = omega arith in e)) xs
  where
    turned : (y : ℕ) → nat_eq y x ≡ nat_eq x y
    turned y = elim (cases_eq y x) [
      | inl same ↦ eq-eqb y x same ∙ sym (eq-eqb x y (sym same))
      | inr other ↦ ne_eqb y x other ∙ sym (ne_eqb x y (λ e. other (sym e)))
    ]

pub found_place : (xs : List ℕ) (x k : ℕ) → Some k ≡ position (nat_eq x) xs → k ≡ place_in xs x
found_place xs x k e = either (nat_lt (position_or_len (nat_eq x) xs) (length xs)) e
  where
    either : (b : Bool) → Some k ≡ cond b (Some (position_or_len (nat_eq x) xs)) None → k ≡ place_in xs x
    either true f = same_Some k (position_or_len (nat_eq x) xs) f ∙ sym (place_first xs x)
    either false f = absurd cc
