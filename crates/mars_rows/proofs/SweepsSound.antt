-- A sweep keeps a table sound.
use Rattle.std.proofs.Common.{◌≡◌, ℕ, zero, suc, ◌<◌, ◌≤◌, Bool, true, false, cond, nat_eq, List, [], ◌∷◌, ◌++◌, length, filter, Option, Some, None, unwrap_or, slice_get, refl, sym, subst, ap, ◌∙◌, arith, All, IsSome, eq-eqb}
use Rattle.std.specs.Option.{option_map}
use Rattle.std.specs.List.{IsDistinct, AllByRecursion}
use Rattle.std.proofs.lemmas.Option.{same_Some, slice_get_within, get_or_from_slice_get}
use Rattle.std.proofs.lemmas.List.Elements.{All-cons, All-nil, All-get_or}
use Rattle.mars_tree.specs.Label.{arity_of}
use Rattle.mars_tree.specs.Graph.{stands}
use Rattle.mars_tree.proofs.CallerLemmas.{same_from_bisimulation, walk-push}
use Rattle.mars_rows.specs.Object.{TableObject, sweep, is_met}
use Rattle.mars_rows.specs.Rows.{Row, row_at, HasRow, kids_of_row, shown_at_row, tree_of}
use Rattle.mars_rows.specs.Sound.{IsMet, IsSound}
use Rattle.mars_rows.specs.SoundLaws.{SweepKeepsSound}
use Rattle.mars_rows.proofs.Distinct.{numbers, distinct-filter}
use Rattle.mars_rows.proofs.Swept.{sweep_means, row_at-filter}

-- what holds of each element that passes holds of all that a filter keeps
All-filter : {X : Type 0} (P : X → Type 0) (q : X → Bool) (xs : List X) → ((i : ℕ) (x : X) → slice_get xs i ≡ Some x → q x ≡ true → P x) → All P (filter q xs)
All-filter P q [] each = All-nil P
All-filter {X} P q (x ∷ xs) each = either (q x) (each 0 x refl) (All-filter P q xs (λ i. each (suc i)))
  where
    either : (b : Bool) → (b ≡ true → P x) → All P (filter q xs) → All P (cond b (x ∷ filter q xs) (filter q xs))
    either true here rest = All-cons P x (filter q xs) (here refl) rest
    either false here rest = rest

All-of_gets : {X : Type 0} (P : X → Type 0) (xs : List X) → ((i : ℕ) (x : X) → slice_get xs i ≡ Some x → P x) → All P xs
All-of_gets P [] each = All-nil P
All-of_gets P (x ∷ xs) each = All-cons P x xs (each 0 x refl) (All-of_gets P xs (λ i. each (suc i)))

All-at : {X : Type 0} (P : X → Type 0) (xs : List X) (i : ℕ) (x : X) → All P xs → slice_get xs i ≡ Some x → P x
All-at P xs i x all get = subst P (get_or_from_slice_get xs i x x get) (All-get_or P xs i x (slice_get_within xs i x get) all)

-- a filter takes no more than there is
length-kept : (q : Row → Bool) (rows : List Row) → length (filter q rows) ≤ length rows
length-kept q [] = omega arith
length-kept q (row ∷ rows) = either (q row) (length-kept q rows)
  where
    either : (b : Bool) → length (filter q rows) ≤ length rows → length (cond b (row ∷ filter q rows) (filter q rows)) ≤ suc (length rows)
    either true le = omega (arith, le)
    either false le = omega (arith, le)

by_recursion-at : (x : ℕ) (rows : List Row) (i : ℕ) (row : Row) → AllByRecursion (λ y. nat_eq x y ≡ false) (numbers rows) → slice_get rows i ≡ Some row → nat_eq x row.number ≡ false
by_recursion-at x [] i row all e = cc
by_recursion-at x (r ∷ rows) zero row all e = subst (λ (s : Row). nat_eq x s.number ≡ false) (same_Some r row e) all.0
by_recursion-at x (r ∷ rows) (suc i) row all e = by_recursion-at x rows i row all.1 e

-- where numbers are distinct each row is the one of its number
pub row_here : (rows : List Row) (i : ℕ) (row : Row) → IsDistinct nat_eq (numbers rows) → slice_get rows i ≡ Some row → row_at rows row.number ≡ Some row
unfolding IsDistinct
row_here [] i row distinct e = cc
row_here (r ∷ rows) zero row distinct e =
    let same : r ≡ row = same_Some r row e in
    ap (λ b. cond b (Some r) (row_at rows row.number)) (eq-eqb r.number row.number (ap (λ (s : Row). s.number) same)) ∙ ap (λ s. Some s) same
row_here (r ∷ rows) (suc i) row distinct e =
    ap (λ b. cond b (Some r) (row_at rows row.number)) (by_recursion-at r.number rows i row distinct.0 e) ∙ row_here rows i row distinct.1 e

module _ (t : TableObject) (sound : IsSound t) where
  kept : (h : ℕ) → IsMet t h → HasRow (sweep t).rows h
  kept h met = ((sweep_means t sound.closed sound.pins).0 h).1 met

  met : (h : ℕ) → HasRow (sweep t).rows h → IsMet t h
  met h has = ((sweep_means t sound.closed sound.pins).0 h).0 has

  same_row : (h : ℕ) → HasRow (sweep t).rows h → row_at (sweep t).rows h ≡ row_at t.rows h
  same_row h has = (sweep_means t sound.closed sound.pins).1 h has

  pub was_row : (h : ℕ) → HasRow (sweep t).rows h → HasRow t.rows h
  was_row h has = subst (λ (o : Option Row). IsSome o) (same_row h has) has

  same_kids : (h : ℕ) → HasRow (sweep t).rows h → kids_of_row (sweep t).rows h ≡ kids_of_row t.rows h
  same_kids h has = ap (λ (o : Option Row). unwrap_or (option_map (λ (row : Row). row.kids) o) []) (same_row h has)

  -- kids of what is met are met
  kid_kept : (h k kid : ℕ) → HasRow (sweep t).rows h → slice_get (kids_of_row t.rows h) k ≡ Some kid → HasRow (sweep t).rows kid
  kid_kept h k kid has e =
      let m = met h has in
      kept kid (record { pin = m.pin; pinned = m.pinned; path = m.path ++ k ∷ []; meets = walk-push (kids_of_row t.rows) m.pin.1 h kid k m.path m.meets e })

  -- the tree of a row that stays
  pub same_tree : (h : ℕ) → HasRow (sweep t).rows h → (path : List ℕ) → tree_of (sweep t).rows h path ≡ tree_of t.rows h path
  same_tree h has =
      same_from_bisimulation (kids_of_row (sweep t).rows) (shown_at_row (sweep t).rows) (kids_of_row t.rows) (shown_at_row t.rows)
      (λ i j. HasRow (sweep t).rows i × (i ≡ j)) (record {
        shown = λ i j r. ap (λ o. stands (option_map (λ (row : Row). row.label) o) i) (same_row i r.0) ∙ ap (shown_at_row t.rows) r.1;
        count = λ i j r. ap length (same_kids i r.0) ∙ ap (λ n. length (kids_of_row t.rows n)) r.1;
        follows = λ i j k x y r left right.
            let left' : slice_get (kids_of_row t.rows i) k ≡ Some x = ap (λ xs. slice_get xs k) (sym (same_kids i r.0)) ∙ left in
            (kid_kept i k x r.0 left', same_Some x y (sym left' ∙ ap (λ n. slice_get (kids_of_row t.rows n) k) r.1 ∙ right));
      }) h h (has, refl)

  pub sweep_sound : IsSound (sweep t)
  sweep_sound =
      let q : Row → Bool = λ row. is_met t row.number in
      let here = λ (i : ℕ) (row : Row) (e : slice_get t.rows i ≡ Some row) (passes : q row ≡ true).
      let is : HasRow (sweep t).rows row.number =
      subst (λ (o : Option Row). IsSome o) (sym (row_at-filter (is_met t) t.rows row.number ∙ ap (λ b. cond b (row_at t.rows row.number) None) passes ∙ row_here t.rows i row sound.numbers e)) refl in is in
      record {
        numbers = distinct-filter q t.rows sound.numbers;
        below = All-filter (λ row. row.number < t.next) q t.rows (λ i row e passes. All-at (λ row. row.number < t.next) t.rows i row sound.below e);
        closed = record {
          count = All-filter (λ row. length row.kids ≡ arity_of row.label) q t.rows (λ i row e passes. All-at (λ row. length row.kids ≡ arity_of row.label) t.rows i row sound.closed.count e);
          kids = All-filter (λ row. All (HasRow (sweep t).rows) row.kids) q t.rows (λ i row e passes.
              All-of_gets (HasRow (sweep t).rows) row.kids (λ k kid f.
              let kids : kids_of_row t.rows row.number ≡ row.kids = ap (λ (o : Option Row). unwrap_or (option_map (λ (r : Row). r.kids) o) []) (row_here t.rows i row sound.numbers e) in
              kid_kept row.number k kid (here i row e passes) (ap (λ xs. slice_get xs k) kids ∙ f)));
        };
        pins = All-of_gets (λ (pin : ℕ × ℕ). HasRow (sweep t).rows pin.1) t.pins (λ i pin e.
            kept pin.1 (record {
              pin = pin;
              pinned = (i, slice_get_within t.pins i pin e, get_or_from_slice_get t.pins i pin pin e);
              path = [];
              meets = refl;
            }));
        limit = omega (arith, length-kept q t.rows, sound.limit);
        apart = λ a b has_a has_b same.
            sound.apart a b (was_row a has_a) (was_row b has_b) (λ path. sym (same_tree a has_a path) ∙ same path ∙ same_tree b has_b path);
      }

pub sweep_keeps_sound : SweepKeepsSound
sweep_keeps_sound t sound = sweep_sound t sound
