-- A component is made node by node.
use Rattle.std.proofs.Common.{◌≡◌, ◌⊎◌, ℕ, zero, suc, ◌<◌, ◌+◌, Bool, true, false, cond, List, [], ◌∷◌, ◌++◌, length, map, take, Some, slice_get, slice_index_or, get_or, length-append, refl, sym, ap, ◌∙◌, subst, arith, inl, inr}
use Rattle.std.specs.List.{filter}
use Rattle.std.proofs.lemmas.Bool.{cases_lt}
use Rattle.std.proofs.lemmas.List.{map-append}
use Rattle.std.proofs.lemmas.List.Elements.{filter_more}
use Rattle.std.proofs.lemmas.Option.{same_Some, get_or_from_slice_get}
use Rattle.std.specs.Bool.{Decides}
use Rattle.std.specs.List.{IsDistinct, AllByRecursion, list_any}
use Rattle.std.proofs.lemmas.Bool.{false≢true}
use Rattle.std.specs.Cmp.Lexicographic.{pointwise_decides}
use Rattle.indexmap.specs.IndexSet.{insert_key}
use Rattle.mars_comp.specs.contracts.items.KeyPartialEq.TheImpl as key_eq
use Rattle.mars_comp.proofs.Ordered.{item_decides}
use Rattle.mars_tree.specs.Graph.{Node}
use Rattle.mars_reach.specs.Order.{place_in}
use Rattle.mars_comp.specs.Key.{inner_kids, entry}
use Rattle.mars_comp.specs.declared.items.Key.{Key}
use Rattle.mars_comp.proofs.Gets.{get_front, get_last}
use Rattle.mars_first.specs.PlacesInside.{kids_of_place, number_at}
use Rattle.mars_first.specs.ComponentInside.{AreDistinctRows, HasRowAt, HasRowNumber, IsComponentOf}
use Rattle.mars_first.specs.declared.component.Component.{Component}
use Rattle.mars_first.proofs.Staging.{element}

-- the place of one more kid, where it passes
pub placed_more : (p : ℕ → Bool) (f : ℕ → ℕ) (xs places new : List ℕ) (k : ℕ) → k < length xs → places ≡ map f (filter p (take k xs)) → new ≡ places ++ cond (p (get_or xs k 0)) (f (get_or xs k 0) ∷ []) [] → new ≡ map f (filter p (take (k + 1) xs))
placed_more p f xs places new k lt before after =
    let x : ℕ = get_or xs k 0 in
    after
    ∙ ap (λ ys. ys ++ cond (p x) (f x ∷ []) []) before
    ∙ ap (λ ys. map f (filter p (take k xs)) ++ ys) (one (p x) x)
    ∙ sym (map-append f (filter p (take k xs)) (cond (p x) (x ∷ []) []))
    ∙ ap (map f) (sym (filter_more p xs k 0 lt))
  where
    one : (b : Bool) (x : ℕ) → cond b (f x ∷ []) [] ≡ map f (cond b (x ∷ []) [])
    one true x = refl
    one false x = refl

number_front : (xs : List ℕ) (y p : ℕ) → p < length xs → slice_index_or (xs ++ y ∷ []) p 0 ≡ slice_index_or xs p 0
number_front xs y p lt = let x = element xs p lt in get_or_from_slice_get (xs ++ y ∷ []) p x.0 0 (get_front xs (y ∷ []) p x.0 x.1) ∙ sym (get_or_from_slice_get xs p x.0 0 x.1)

number_last : (xs : List ℕ) (y : ℕ) → slice_index_or (xs ++ y ∷ []) (length xs) 0 ≡ y
number_last xs y = get_or_from_slice_get (xs ++ y ∷ []) (length xs) y 0 (get_last xs y)

-- a component with one node more
module _ (g : List Node) (parts outside starts : List ℕ) (old new : Component) (node number : ℕ) (is : IsComponentOf g parts outside starts old) (next : slice_get starts (length old.places.numbers.items) ≡ Some node)
    (row : HasRowAt old.rows.keys (entry g parts outside [] node) number new.rows.keys) (numbers : new.places.numbers.items ≡ old.places.numbers.items ++ number ∷ [])
    (kids_front : (p : ℕ) → p < length old.places.kids.items → kids_of_place new.places p ≡ kids_of_place old.places p) (kids_last : kids_of_place new.places (length old.places.kids.items) ≡ map (place_in starts) (inner_kids g parts node))
    (kids_count : length new.places.kids.items ≡ length old.places.kids.items + 1) where
  count : length new.places.numbers.items ≡ length old.places.numbers.items + 1
  count = ap length numbers ∙ length-append old.places.numbers.items (number ∷ [])

  number_is : (p : ℕ) → number_at new.places p ≡ slice_index_or (old.places.numbers.items ++ number ∷ []) p 0
  number_is p = ap (λ xs. slice_index_or xs p 0) numbers

  last : (p : ℕ) → p < length new.places.numbers.items → (p < length old.places.numbers.items) ⊎ (p ≡ length old.places.numbers.items)
  last p lt = let n = count in elim (cases_lt p (length old.places.numbers.items)) [ inl less ↦ inl less | inr le ↦ inr (omega (arith, n, lt, le)) ]

  this_node : (p n : ℕ) → p ≡ length old.places.numbers.items → slice_get starts p ≡ Some n → node ≡ n
  this_node p n at e = same_Some node n (sym next ∙ ap (slice_get starts) (sym at) ∙ e)

  pub component_more : IsComponentOf g parts outside starts new
  component_more = record {
    size = let a = kids_count in let b = count in let s = is.size in omega (arith, a, b, s);
    row = λ p n lt e. row_of p n e (last p lt);
    kids = λ p n lt e. kids_of p n e (last p lt);
    distinct = row.distinct;
  }
    where
      row_of : (p n : ℕ) → slice_get starts p ≡ Some n → (p < length old.places.numbers.items) ⊎ (p ≡ length old.places.numbers.items) → HasRowNumber g parts outside new.rows.keys n (number_at new.places p)
      row_of p n e (inl lt) =
          let a = is.row p n lt e in
          record { key = a.key; there = ap (slice_get new.rows.keys) (number_is p ∙ number_front old.places.numbers.items number p lt) ∙ row.front (number_at old.places p) a.key a.there; is = a.is }
      row_of p n e (inr at) = record {
        key = row.key;
        there = ap (slice_get new.rows.keys) (number_is p ∙ ap (λ (z : ℕ). slice_index_or (old.places.numbers.items ++ number ∷ []) z 0) at ∙ number_last old.places.numbers.items number) ∙ row.there;
        is = row.is ∙ ap (entry g parts outside []) (this_node p n at e);
      }

      kids_of : (p n : ℕ) → slice_get starts p ≡ Some n → (p < length old.places.numbers.items) ⊎ (p ≡ length old.places.numbers.items) → kids_of_place new.places p ≡ map (place_in starts) (inner_kids g parts n)
      kids_of p n e (inl lt) = let s = is.size in kids_front p (omega arith) ∙ is.kids p n lt e
      kids_of p n e (inr at) =
          let s = is.size in
          let same : p ≡ length old.places.kids.items = omega arith in
          ap (kids_of_place new.places) same ∙ kids_last ∙ ap (λ (z : ℕ). map (place_in starts) (inner_kids g parts z)) (this_node p n at e)

-- equal keys have equal items
abbrev same_key : Key → Key → Bool
same_key = (key_eq.ghosts).eq

key_decides : (a b : Key) → Decides (same_key a b) (a.items.items ≡ b.items.items)
key_decides a b = pointwise_decides item_decides a.items.items b.items.items

apart_from : (keys : List Key) (x b : Key) (i : ℕ) → AllByRecursion (λ y. same_key x y ≡ false) keys → slice_get keys i ≡ Some b → x.items.items ≡ b.items.items → ⊥
apart_from [] x b i all e f = absurd cc
apart_from (y ∷ keys) x b zero all e f = false≢true (sym all.0 ∙ (key_decides x y).1 (f ∙ ap (λ (k : Key). k.items.items) (sym (same_Some y b e))))
apart_from (y ∷ keys) x b (suc i) all e f = apart_from keys x b i all.1 e f

distinct_rows : (keys : List Key) → IsDistinct same_key keys → AreDistinctRows keys
unfolding IsDistinct
distinct_rows [] d i j a b e f same = absurd cc
distinct_rows (y ∷ keys) d zero zero a b e f same = refl
distinct_rows (y ∷ keys) d zero (suc j) a b e f same = absurd (apart_from keys y b j d.0 f (ap (λ (k : Key). k.items.items) (same_Some y a e) ∙ same))
distinct_rows (y ∷ keys) d (suc i) zero a b e f same = absurd (apart_from keys y a i d.0 e (ap (λ (k : Key). k.items.items) (same_Some y b f) ∙ sym same))
distinct_rows (y ∷ keys) d (suc i) (suc j) a b e f same = ap suc (distinct_rows keys d.1 i j a b e f same)

pub has_row : (old new : List Key) (value stored : Key) (number : ℕ) → slice_get new number ≡ Some stored → same_key value stored ≡ true → new ≡ insert_key same_key old value → IsDistinct same_key new → HasRowAt old value.items.items number new
has_row old new value stored number there same is distinct = record {
  key = stored;
  there = there;
  is = sym ((key_decides value stored).0 same);
  front = λ k other e. ap (λ xs. slice_get xs k) is ∙ front (list_any (same_key value) old) k other e;
  distinct = distinct_rows new distinct;
}
  where
    front : (b : Bool) (k : ℕ) (other : Key) → slice_get old k ≡ Some other → slice_get (cond b old (old ++ value ∷ [])) k ≡ Some other
    front true k other e = e
    front false k other e = get_front old (value ∷ []) k other e

-- a component without nodes
pub component_none : (g : List Node) (parts outside starts : List ℕ) (c : Component) → length c.places.numbers.items ≡ 0 → length c.places.kids.items ≡ 0 → c.rows.keys ≡ [] → IsComponentOf g parts outside starts c
component_none g parts outside starts c none no_kids empty = record {
  size = omega (arith, none, no_kids);
  row = λ p n lt e. absurd (omega (arith, none, lt));
  kids = λ p n lt e. absurd (omega (arith, none, lt));
  distinct = subst AreDistinctRows (sym empty) (λ i j a b e f same. absurd cc);
}
