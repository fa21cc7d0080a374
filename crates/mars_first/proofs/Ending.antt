-- The rarest row, and what the candidates that have it lead to.
use Rattle.std.proofs.Common.{◌≡◌, ◌≢◌, ℕ, ◌<◌, ◌≤◌, ◌+◌, List, [], ◌∷◌, length, Option, Some, None, option_and_then, slice_get, slice_index_or, get_or, below_more, unwrap_or, refl, sym, ap, ◌∙◌, subst, arith, inl, inr, Contains, All}
use Rattle.std.specs.Option.{option_map}
use Rattle.std.proofs.lemmas.Bool.{cases_eq}
use Rattle.std.proofs.lemmas.Option.{same_Some, slice_get_within, slice_get-get_or, get_or_from_slice_get}
use Rattle.mars_tree.specs.Walk.{walk}
use Rattle.mars_reach.proofs.Numbers.{at_contains, contains_at, All-slice_get, All-from_gets}
use Rattle.std.specs.declared.cmp.Ordering.{Ordering}
use Rattle.std.specs.declared.cmp.Ordering.TheVariants.{Less}
use Rattle.mars_comp.specs.Least.{IsAtMost, key_cmp}
use Rattle.mars_comp.specs.declared.items.Item.{Item}
use Rattle.mars_comp.specs.declared.items.Key.{Key}
use Rattle.mars_comp.proofs.Ordered.{at_most_itself, at_most_on, not_less}
use Rattle.mars_first.specs.PlacesInside.{kids_of_place, number_at, number_along, ArePlaces}
use Rattle.mars_first.specs.StagesInside.{AreRowsApart, NeverDiffer, AreOwn}
use Rattle.mars_first.specs.ComponentInside.{row_items, count_of, IsRarer, Precedes, AreCounts, AreRowNumbers, chosen, IsNarrowedTo, alike, further, ComesFrom, IsFirstPlace}
use Rattle.mars_first.specs.declared.component.Component.{Component}
use Rattle.mars_first.specs.declared.places.Places.{Places}
use Rattle.mars_first.proofs.Staging.{element}
use Rattle.mars_first.proofs.Choosing.{chosen_at, chosen_has, chosen_count, count_below}

pub precedes_itself : (keys : List Key) (counts : List ℕ) (r : ℕ) → Precedes keys counts r r
precedes_itself keys counts r = inr (refl, at_most_itself (row_items keys r))

pub precedes_on : (keys : List Key) (counts : List ℕ) (r q t : ℕ) → Precedes keys counts r q → Precedes keys counts q t → Precedes keys counts r t
precedes_on keys counts r q t (inl lt) (inl more) = inl (omega (arith, lt, more))
precedes_on keys counts r q t (inl lt) (inr (e, le)) = inl (omega (arith, lt, e))
precedes_on keys counts r q t (inr (e, le)) (inl lt) = inl (omega (arith, lt, e))
precedes_on keys counts r q t (inr (e, le)) (inr (f, more)) = inr (e ∙ f, at_most_on (row_items keys r) (row_items keys q) (row_items keys t) le more)

-- a row that comes first among so many
abbrev pub IsFirstOf : List Key → List ℕ → List ℕ → ℕ → ℕ → Type 0
IsFirstOf keys counts rows n best = (k : ℕ) → k < n → Precedes keys counts best (get_or rows k 0)

pub first_kept : (keys : List Key) (counts rows : List ℕ) (n best : ℕ) → IsFirstOf keys counts rows n best → Precedes keys counts best (get_or rows n 0) → IsFirstOf keys counts rows (n + 1) best
first_kept keys counts rows n best first next = below_more _ _ first next

pub first_taken : (keys : List Key) (counts rows : List ℕ) (n best : ℕ) → IsFirstOf keys counts rows n best → Precedes keys counts (get_or rows n 0) best → IsFirstOf keys counts rows (n + 1) (get_or rows n 0)
first_taken keys counts rows n best first next =
    below_more _ _ (λ k lt. precedes_on keys counts (get_or rows n 0) best (get_or rows k 0) next (first k lt)) (precedes_itself keys counts (get_or rows n 0))

-- numbers along paths are numbers of places
walk_in : (s : Places) → ArePlaces s → (path : List ℕ) (p z : ℕ) → p < length s.numbers.items → walk (kids_of_place s) p path ≡ Some z → z < length s.numbers.items
walk_in s places [] p z lt e = let same = same_Some p z e in omega (arith, same, lt)
walk_in s places (k ∷ path) p z lt e = either (slice_get (kids_of_place s p) k) refl (λ x. walk_in s places path x z)
  where
    either : (o : Option ℕ) → slice_get (kids_of_place s p) k ≡ o → ((x : ℕ) → x < length s.numbers.items → walk (kids_of_place s) x path ≡ Some z → z < length s.numbers.items) → z < length s.numbers.items
    either None is_none rest = absurd (none_some (sym (ap (option_and_then (λ (x : ℕ). walk (kids_of_place s) x path)) is_none) ∙ e))
      where
        none_some : None ≡ Some z → ⊥
        none_some f = absurd cc
    either (Some x) is_some rest =
        rest x (All-slice_get (λ (y : ℕ). y < length s.numbers.items) (kids_of_place s p) k x (places.kids_in p lt) is_some) (sym (ap (option_and_then (λ (x : ℕ). walk (kids_of_place s) x path)) is_some) ∙ e)

number_in : (c : Component) → ArePlaces c.places → AreRowNumbers c → (path : List ℕ) (p r : ℕ) → p < length c.places.numbers.items → number_along c.places p path ≡ Some r → r < length c.rows.keys
number_in c places numbered path p r lt e = either (walk (kids_of_place c.places) p path) refl
  where
    either : (o : Option ℕ) → walk (kids_of_place c.places) p path ≡ o → r < length c.rows.keys
    either None is_none = absurd (none_some (sym (ap (option_map (number_at c.places)) is_none) ∙ e))
      where
        none_some : None ≡ Some r → ⊥
        none_some f = absurd cc
    either (Some z) is_some =
        let same : number_at c.places z ≡ r = same_Some (number_at c.places z) r (sym (ap (option_map (number_at c.places)) is_some) ∙ e) in
        let below = numbered z (walk_in c.places places path p z lt is_some) in
        omega (arith, same, below)

pub rows_below : (c : Component) (candidates rows : List ℕ) → ArePlaces c.places → AreRowNumbers c → All (λ x. x < length c.places.numbers.items) candidates → AreRowsApart c.places candidates rows → All (λ r. r < length c.rows.keys) rows
rows_below c candidates rows places numbered within are =
    All-from_gets (λ r. r < length c.rows.keys) rows (λ j r e.
    let size = are.count in
    let lt = slice_get_within rows j r e in
    let p = element candidates j (omega arith) in
    number_in c places numbered are.path p.0 r (All-slice_get (λ (x : ℕ). x < length c.places.numbers.items) candidates j p.0 within p.1) (are.at_path j p.0 p.1 ∙ e))

pub rows_some : (c : Component) (candidates rows : List ℕ) → AreRowsApart c.places candidates rows → 0 < length candidates → 0 < length rows
rows_some c candidates rows are full = let size = are.count in omega arith

count_is : (size : ℕ) (rows counts : List ℕ) → AreCounts size rows counts → (r : ℕ) → r < size → slice_index_or counts r 0 ≡ count_of r rows
count_is size rows counts are r lt =
    let size_is = are.size_is in
    let x = element counts r (omega arith) in
    get_or_from_slice_get counts r x.0 0 x.1 ∙ are.each r x.0 x.1

pub narrowed_to : (c : Component) (candidates rows counts left : List ℕ) (row : ℕ) → AreRowsApart c.places candidates rows → AreCounts (length c.rows.keys) rows counts → All (λ r. r < length c.rows.keys) rows → Contains rows row → All (λ r. Precedes c.rows.keys counts row r) rows → left ≡ chosen candidates rows row →
    IsNarrowedTo c candidates left
narrowed_to c candidates rows counts left row apart are below among first is = record {
  rows = rows;
  row = row;
  apart = apart;
  row_in = among;
  rarest = All-from_gets (λ r. IsRarer c.rows.keys rows row r) rows (λ j r e. rarer r (All-slice_get (λ (q : ℕ). q < length c.rows.keys) rows j r below e) (All-slice_get (λ (q : ℕ). Precedes c.rows.keys counts row q) rows j r first e));
  left_is = is;
}
  where
    row_count : slice_index_or counts row 0 ≡ count_of row rows
    row_count = let at = at_contains rows row among in count_is (length c.rows.keys) rows counts are row (All-slice_get (λ (q : ℕ). q < length c.rows.keys) rows at.0 row below at.1)

    rarer : (r : ℕ) → r < length c.rows.keys → Precedes c.rows.keys counts row r → IsRarer c.rows.keys rows row r
    rarer r lt (inl less) = let a = row_count in let b = count_is (length c.rows.keys) rows counts are r lt in inl (omega (arith, less, a, b))
    rarer r lt (inr (e, le)) = let a = row_count in let b = count_is (length c.rows.keys) rows counts are r lt in inr (sym a ∙ e ∙ b, le)

-- narrowing
pub narrows_less : (c : Component) (candidates left : List ℕ) → IsNarrowedTo c candidates left → length left < length candidates
narrows_less c candidates left n =
    let d = n.apart.differ in
    let size : length left ≡ count_of n.row n.rows = ap length n.left_is ∙ chosen_count candidates n.rows n.row n.apart.count in
    let count = n.apart.count in
    let below : count_of n.row n.rows < length n.rows = elim (cases_eq d.2 n.row) [
      | inr ne ↦ count_below n.row n.rows d.0 d.2 d.4 ne
      | inl e ↦ count_below n.row n.rows d.1 d.3 d.5 (λ f. d.6 (e ∙ sym f))
    ] in
    omega (arith, size, count, below)

pub comes_start : (c : Component) (all : List ℕ) → AreOwn (length c.places.numbers.items) all → 0 < length c.places.numbers.items → ComesFrom c all all
comes_start c all own full = record {
  within = λ k p e. let is = own.own k p e in let lt = slice_get_within all k p e in let size = own.size in omega (arith, is, lt, size);
  some = let size = own.size in omega (arith, size, full);
  narrows = λ start n. n;
}

pub comes_more : (c : Component) (all candidates left : List ℕ) → ComesFrom c all candidates → IsNarrowedTo c candidates left → ComesFrom c all left
comes_more c all candidates left comes n = record {
  within = λ k p e. let w = chosen_at candidates n.rows n.row k p (ap (λ xs. slice_get xs k) (sym n.left_is) ∙ e) in comes.within w.place p w.there;
  some =
      let k = at_contains n.rows n.row n.row_in in
      let size = n.apart.count in
      let lt = slice_get_within n.rows k.0 n.row k.1 in
      let p = element candidates k.0 (omega arith) in
      let w = chosen_has candidates n.rows n.row k.0 p.0 p.1 k.1 in
      let within = slice_get_within (chosen candidates n.rows n.row) w.0 p.0 w.1 in
      let same = ap length n.left_is in
      omega (arith, within, same);
  narrows = λ start rest. comes.narrows start (further candidates left n rest);
}

pub comes_within : (c : Component) (all candidates : List ℕ) → ComesFrom c all candidates → All (λ x. x < length c.places.numbers.items) candidates
comes_within c all candidates comes = All-from_gets (λ x. x < length c.places.numbers.items) candidates comes.within

-- the first of candidates
start_there : (c : Component) (all candidates : List ℕ) (start : ℕ) → ComesFrom c all candidates → start ≡ slice_index_or candidates 0 0 → slice_get candidates 0 ≡ Some start
start_there c all candidates start comes is = slice_get-get_or candidates 0 0 comes.some ∙ ap (λ (z : ℕ). Some z) (sym is)

pub start_in : (c : Component) (all candidates : List ℕ) (start : ℕ) → ComesFrom c all candidates → start ≡ slice_index_or candidates 0 0 → start < length c.places.numbers.items
start_in c all candidates start comes is = comes.within 0 start (start_there c all candidates start comes is)

-- that of candidates that no path tells apart is the first place
pub decided : (c : Component) (all candidates : List ℕ) (start : ℕ) → AreOwn (length c.places.numbers.items) all → ComesFrom c all candidates → NeverDiffer c.places candidates → start ≡ slice_index_or candidates 0 0 → IsFirstPlace c start
decided c all candidates start own comes same is = record { all = all; own = own; narrows = comes.narrows start (alike candidates same (contains_at candidates 0 start (start_there c all candidates start comes is))) }

pub one_alike : (c : Component) (candidates : List ℕ) → length candidates ≤ 1 → NeverDiffer c.places candidates
one_alike c candidates few q a b left right =
    let i = at_contains candidates a left in
    let j = at_contains candidates b right in
    let a_in = slice_get_within candidates i.0 a i.1 in
    let b_in = slice_get_within candidates j.0 b j.1 in
    let same : i.0 ≡ j.0 = omega (arith, few, a_in, b_in) in
    ap (λ (z : ℕ). number_along c.places z q) (same_Some a b (sym i.1 ∙ ap (slice_get candidates) same ∙ j.1))

-- what isn't less than a row, by a comparison of their items
pub at_least_from : (keys : List Key) (row other : ℕ) (a b : Key) (o : Ordering) → slice_get keys row ≡ Some a → slice_get keys other ≡ Some b → key_cmp a.items.items b.items.items ≡ o → o ≢ Less → IsAtMost (row_items keys other) (row_items keys row)
at_least_from keys row other a b o at there compared more =
    let one : row_items keys row ≡ a.items.items = ap (λ (x : Option Key). unwrap_or (option_map (λ key. key.items.items) x) []) at in
    let two : row_items keys other ≡ b.items.items = ap (λ (x : Option Key). unwrap_or (option_map (λ key. key.items.items) x) []) there in
    subst (λ (xs : List Item). IsAtMost xs (row_items keys row)) (sym two) (subst (IsAtMost b.items.items) (sym one) (not_less a.items.items b.items.items (λ e. more (sym compared ∙ e))))
