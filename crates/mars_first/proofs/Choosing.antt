-- The candidates with a row, and how many these are.
use Rattle.std.proofs.Common.{◌≡◌, ◌≢◌, ◌⊎◌, ℕ, zero, suc, ◌<◌, ◌≤◌, ◌+◌, Bool, true, false, cond, List, [], ◌∷◌, ◌++◌, length, map, Some, slice_get, slice_index_or, nat_eq, refl, sym, ap, ◌∙◌, subst, arith, inl, inr, Contains, eqb-true, eq-eqb, take, replicate, slice_set, get_or, length-append}
use Rattle.std.specs.List.{filter}
use Rattle.std.specs.Option.{option_map}
use Rattle.std.proofs.lemmas.Bool.{cases_eq}
use Rattle.std.proofs.lemmas.List.{length-map, length-set, length-replicate, length-take-le}
use Rattle.std.proofs.lemmas.List.Sums.{count_by-le-length, count_by_more_yes, count_by_more_no, length-filter}
use Rattle.std.proofs.lemmas.Option.{same_Some, slice_get_within, slice_get-map, get_or_from_slice_get}
use Rattle.mars_reach.specs.Order.{AreDistinct, place_in}
use Rattle.mars_reach.proofs.Numbers.{contains_at, distinct_count, All-from_gets}
use Rattle.mars_reach.proofs.Queues.{place_get}
use Rattle.mars_comp.proofs.Gets.{set_get_same, set_get_other, take_next, get_one}
use Rattle.mars_first.specs.ComponentInside.{chosen, count_of, AreCounts}
use Rattle.mars_first.proofs.Staging.{element}

-- one more candidate
pub chosen_more : (candidates rows : List ℕ) (row a r : ℕ) → length rows ≡ length candidates → chosen (candidates ++ a ∷ []) (rows ++ r ∷ []) row ≡ chosen candidates rows row ++ cond (nat_eq r row) (a ∷ []) []
chosen_more [] [] row a r e = either (nat_eq r row)
  where
    either : (b : Bool) → cond b (a ∷ []) [] ≡ cond b (a ∷ []) []
    either b = refl
chosen_more [] (q ∷ rows) row a r e = absurd (omega arith)
chosen_more (b ∷ candidates) [] row a r e = absurd (omega arith)
chosen_more (b ∷ candidates) (q ∷ rows) row a r e = either (nat_eq q row) (chosen_more candidates rows row a r (omega arith))
  where
    either : (t : Bool) → chosen (candidates ++ a ∷ []) (rows ++ r ∷ []) row ≡ chosen candidates rows row ++ cond (nat_eq r row) (a ∷ []) [] →
        cond t (b ∷ chosen (candidates ++ a ∷ []) (rows ++ r ∷ []) row) (chosen (candidates ++ a ∷ []) (rows ++ r ∷ []) row) ≡ cond t (b ∷ chosen candidates rows row) (chosen candidates rows row) ++ cond (nat_eq r row) (a ∷ []) []
    either true f = ap (λ xs. b ∷ xs) f
    either false f = f

-- who is chosen
pub record IsChosen (candidates rows : List ℕ) (row a : ℕ) : Type 0 where
  pub place : ℕ
  pub there : slice_get candidates place ≡ Some a
  pub row_there : slice_get rows place ≡ Some row

pub chosen_at : (candidates rows : List ℕ) (row k a : ℕ) → slice_get (chosen candidates rows row) k ≡ Some a → IsChosen candidates rows row a
chosen_at [] rows row k a e = absurd cc
chosen_at (b ∷ candidates) [] row k a e = absurd cc
chosen_at (b ∷ candidates) (r ∷ rows) row k a e = either (nat_eq r row) refl (λ k f. chosen_at candidates rows row k a f) k e
  where
    later : IsChosen candidates rows row a → IsChosen (b ∷ candidates) (r ∷ rows) row a
    later w = record { place = suc w.place; there = w.there; row_there = w.row_there }

    either : (t : Bool) → nat_eq r row ≡ t → ((k : ℕ) → slice_get (chosen candidates rows row) k ≡ Some a → IsChosen candidates rows row a) → (k : ℕ) → slice_get (cond t (b ∷ chosen candidates rows row) (chosen candidates rows row)) k ≡ Some a → IsChosen (b ∷ candidates) (r ∷ rows) row a
    either true is rest zero f = record { place = 0; there = f; row_there = ap (λ (z : ℕ). Some z) (eqb-true r row is) }
    either true is rest (suc k) f = later (rest k f)
    either false is rest k f = later (rest k f)

pub chosen_has : (candidates rows : List ℕ) (row p a : ℕ) → slice_get candidates p ≡ Some a → slice_get rows p ≡ Some row → (k : ℕ) × (slice_get (chosen candidates rows row) k ≡ Some a)
chosen_has [] rows row p a e f = absurd cc
chosen_has (b ∷ candidates) [] row p a e f = absurd cc
chosen_has (b ∷ candidates) (r ∷ rows) row zero a e f = either (nat_eq r row) (eq-eqb r row (same_Some r row f))
  where
    either : (t : Bool) → t ≡ true → (k : ℕ) × (slice_get (cond t (b ∷ chosen candidates rows row) (chosen candidates rows row)) k ≡ Some a)
    either true is = (0, e)
    either false is = absurd cc
chosen_has (b ∷ candidates) (r ∷ rows) row (suc p) a e f = either (nat_eq r row) (chosen_has candidates rows row p a e f)
  where
    either : (t : Bool) → (k : ℕ) × (slice_get (chosen candidates rows row) k ≡ Some a) → (k : ℕ) × (slice_get (cond t (b ∷ chosen candidates rows row) (chosen candidates rows row)) k ≡ Some a)
    either true (k, g) = (suc k, g)
    either false (k, g) = (k, g)

-- how many of one number more
count_next : (row r : ℕ) (rows : List ℕ) → count_of row (r ∷ rows) ≡ cond (nat_eq r row) (suc (count_of row rows)) (count_of row rows)
count_next row r rows = sym (length-filter (λ x. nat_eq x row) (r ∷ rows)) ∙ either (nat_eq r row)
  where
    either : (t : Bool) → length (cond t (r ∷ filter (λ x. nat_eq x row) rows) (filter (λ x. nat_eq x row) rows)) ≡ cond t (suc (count_of row rows)) (count_of row rows)
    either true = ap suc (length-filter (λ x. nat_eq x row) rows)
    either false = length-filter (λ x. nat_eq x row) rows

-- as many as have the row
pub chosen_count : (candidates rows : List ℕ) (row : ℕ) → length rows ≡ length candidates → length (chosen candidates rows row) ≡ count_of row rows
chosen_count [] [] row e = refl
chosen_count [] (r ∷ rows) row e = absurd (omega arith)
chosen_count (a ∷ candidates) [] row e = absurd (omega arith)
chosen_count (a ∷ candidates) (r ∷ rows) row e = either (nat_eq r row) (chosen_count candidates rows row (omega arith)) ∙ sym (count_next row r rows)
  where
    either : (t : Bool) → length (chosen candidates rows row) ≡ count_of row rows → length (cond t (a ∷ chosen candidates rows row) (chosen candidates rows row)) ≡ cond t (suc (count_of row rows)) (count_of row rows)
    either true f = omega (arith, f)
    either false f = f

tail_distinct : (a : ℕ) (xs : List ℕ) → AreDistinct (a ∷ xs) → AreDistinct xs
tail_distinct a xs once i j x e f = let h = once (suc i) (suc j) x e f in omega arith

distinct_cons : (a : ℕ) (xs : List ℕ) → ((k : ℕ) → slice_get xs k ≢ Some a) → AreDistinct xs → AreDistinct (a ∷ xs)
distinct_cons a xs new once zero zero x e f = refl
distinct_cons a xs new once zero (suc j) x e f = absurd (new j (f ∙ sym e))
distinct_cons a xs new once (suc i) zero x e f = absurd (new i (e ∙ sym f))
distinct_cons a xs new once (suc i) (suc j) x e f = let h = once i j x e f in omega (arith, h)

pub chosen_distinct : (candidates rows : List ℕ) (row : ℕ) → AreDistinct candidates → AreDistinct (chosen candidates rows row)
chosen_distinct [] rows row once = once
chosen_distinct (a ∷ candidates) [] row once = λ i j x e f. absurd cc
chosen_distinct (a ∷ candidates) (r ∷ rows) row once = either (nat_eq r row) (chosen_distinct candidates rows row (tail_distinct a candidates once))
  where
    new : (k : ℕ) → slice_get (chosen candidates rows row) k ≢ Some a
    new k e = let w = chosen_at candidates rows row k a e in let h = once 0 (suc w.place) a refl w.there in absurd (omega (arith, h))

    either : (t : Bool) → AreDistinct (chosen candidates rows row) → AreDistinct (cond t (a ∷ chosen candidates rows row) (chosen candidates rows row))
    either true f = distinct_cons a (chosen candidates rows row) new f
    either false f = f

-- distinct numbers that are all among others are no more than these
pub fewer : (xs ys : List ℕ) → AreDistinct xs → ((x : ℕ) → Contains xs x → Contains ys x) → length xs ≤ length ys
fewer xs ys once among = let few = distinct_count (map (place_in ys) xs) (length ys) distinct (All-from_gets (λ p. p < length ys) (map (place_in ys) xs) below) in let size : length (map (place_in ys) xs) ≡ length xs = length-map xs (place_in ys) in omega (arith, few, size)
  where
    of_place : (k p : ℕ) → slice_get (map (place_in ys) xs) k ≡ Some p → (x : ℕ) × (slice_get xs k ≡ Some x) × (slice_get ys p ≡ Some x)
    of_place k p e =
        let lt = slice_get_within (map (place_in ys) xs) k p e in
        let size : length (map (place_in ys) xs) ≡ length xs = length-map xs (place_in ys) in
        let x = element xs k (omega arith) in
        let is : place_in ys x.0 ≡ p = same_Some (place_in ys x.0) p (ap (option_map (place_in ys)) (sym x.1) ∙ sym (slice_get-map (place_in ys) xs k) ∙ e) in
        (x.0, x.1, ap (slice_get ys) (sym is) ∙ place_get ys x.0 (among x.0 (contains_at xs k x.0 x.1)))

    below : (k p : ℕ) → slice_get (map (place_in ys) xs) k ≡ Some p → p < length ys
    below k p e = let w = of_place k p e in slice_get_within ys p w.0 w.2

    distinct : AreDistinct (map (place_in ys) xs)
    distinct i j p e f =
        let a = of_place i p e in
        let b = of_place j p f in
        let same : b.0 ≡ a.0 = same_Some b.0 a.0 (sym b.2 ∙ a.2) in
        once i j a.0 a.1 (b.1 ∙ ap (λ (z : ℕ). Some z) same)

-- fewer are counted where rows differ
pub count_below : (row : ℕ) (rows : List ℕ) (k x : ℕ) → slice_get rows k ≡ Some x → x ≢ row → count_of row rows < length rows
count_below row [] k x e ne = absurd cc
count_below row (r ∷ rows) zero x e ne = subst (λ (n : ℕ). n < suc (length rows)) (sym (count_next row r rows)) (either (nat_eq r row) refl)
  where
    either : (t : Bool) → nat_eq r row ≡ t → cond t (suc (count_of row rows)) (count_of row rows) < suc (length rows)
    either true is = absurd (ne (sym (same_Some r x e) ∙ eqb-true r row is))
    either false is = let few = count_by-le-length (λ x. nat_eq x row) rows in omega (arith, few)
count_below row (r ∷ rows) (suc k) x e ne = subst (λ (n : ℕ). n < suc (length rows)) (sym (count_next row r rows)) (either (nat_eq r row) (count_below row rows k x e ne))
  where
    either : (t : Bool) → count_of row rows < length rows → cond t (suc (count_of row rows)) (count_of row rows) < suc (length rows)
    either true f = omega (arith, f)
    either false f = omega (arith, f)

-- counts of rows
not_equal : (b : Bool) → (b ≡ true → ⊥) → b ≡ false
not_equal true no_true = absurd (no_true refl)
not_equal false no_true = refl

zeros_at : (n k c : ℕ) → slice_get (replicate n 0) k ≡ Some c → c ≡ 0
zeros_at zero k c e = absurd cc
zeros_at (suc n) zero c e = sym (same_Some 0 c e)
zeros_at (suc n) (suc k) c e = zeros_at n k c e

pub counts_none : (size : ℕ) (counts : List ℕ) → counts ≡ replicate size 0 → AreCounts size [] counts
counts_none size counts e = record { size_is = ap length e ∙ length-replicate size 0; each = λ r c f. zeros_at size r c (ap (λ xs. slice_get xs r) (sym e) ∙ f) }

pub counts_more : (size : ℕ) (rows counts : List ℕ) (k row now : ℕ) → AreCounts size (take k rows) counts → slice_get rows k ≡ Some row → now ≡ slice_index_or counts row 0 → row < size → AreCounts size (take (k + 1) rows) (slice_set counts row (now + 1))
counts_more size rows counts k row now are at is within = record { size_is = length-set counts row (now + 1) ∙ are.size_is; each = λ r c e. each r c e }
  where
    lt : k < length rows
    lt = slice_get_within rows k row at

    read : get_or rows k 0 ≡ row
    read = get_or_from_slice_get rows k row 0 at

    each : (r c : ℕ) → slice_get (slice_set counts row (now + 1)) r ≡ Some c → c ≡ count_of r (take (k + 1) rows)
    each r c e = elim (cases_eq r row) [
      | inl same ↦
          let size_is = are.size_is in
          let old = element counts row (omega arith) in
          let here : slice_get (slice_set counts row (now + 1)) row ≡ Some (now + 1) = set_get_same counts row (now + 1) old.0 old.1 in
          let one : c ≡ now + 1 = same_Some c (now + 1) (sym e ∙ ap (slice_get (slice_set counts row (now + 1))) same ∙ here) in
          let was : now ≡ count_of row (take k rows) = is ∙ get_or_from_slice_get counts row old.0 0 old.1 ∙ are.each row old.0 old.1 in
          let more : count_of row (take (k + 1) rows) ≡ count_of row (take k rows) + 1 = count_by_more_yes (λ x. nat_eq x row) rows k 0 lt (eq-eqb (get_or rows k 0) row read) in
          one ∙ ap (λ z. z + 1) was ∙ sym more ∙ ap (λ (z : ℕ). count_of z (take (k + 1) rows)) (sym same)
      | inr other ↦
          let old : slice_get counts r ≡ Some c = sym (set_get_other counts row r (now + 1) other) ∙ e in
          are.each r c old ∙ sym (count_by_more_no (λ x. nat_eq x r) rows k 0 lt (not_equal (nat_eq (get_or rows k 0) r) (λ f. other (sym (eqb-true (get_or rows k 0) r f) ∙ read))))
    ]

pub chosen_next : (candidates rows : List ℕ) (row k a r : ℕ) (left new : List ℕ) → length rows ≡ length candidates → slice_get candidates k ≡ Some a → slice_get rows k ≡ Some r → left ≡ chosen (take k candidates) (take k rows) row → new ≡ left ++ cond (nat_eq r row) (a ∷ []) [] →
    new ≡ chosen (take (k + 1) candidates) (take (k + 1) rows) row
chosen_next candidates rows row k a r left new size at there before after =
    let i = slice_get_within candidates k a at in
    let j = slice_get_within rows k r there in
    let lengths : length (take k rows) ≡ length (take k candidates) = length-take-le k rows (omega arith) ∙ sym (length-take-le k candidates (omega arith)) in
    after
    ∙ ap (λ xs. xs ++ cond (nat_eq r row) (a ∷ []) []) before
    ∙ sym (chosen_more (take k candidates) (take k rows) row a r lengths)
    ∙ ap (λ xs. chosen xs (take k rows ++ r ∷ []) row) (sym (take_next candidates k a at))
    ∙ ap (λ xs. chosen (take (k + 1) candidates) xs row) (sym (take_next rows k r there))

pub counts_zero : (size : ℕ) (counts new : List ℕ) → AreCounts size [] counts → new ≡ counts ++ 0 ∷ [] → AreCounts (size + 1) [] new
counts_zero size counts new are e = record {
  size_is = ap length e ∙ length-append counts (0 ∷ []) ∙ ap (λ n. n + 1) are.size_is;
  each = λ r c f. each r c (get_one counts 0 r c (ap (λ xs. slice_get xs r) (sym e) ∙ f));
}
  where
    each : (r c : ℕ) → (slice_get counts r ≡ Some c) ⊎ ((r ≡ length counts) × (0 ≡ c)) → c ≡ 0
    each r c (inl f) = are.each r c f
    each r c (inr w) = sym w.1

pub counts_begin : (counts : List ℕ) → counts ≡ [] → AreCounts 0 [] counts
counts_begin counts e = record { size_is = ap length e; each = λ r c f. let lt = slice_get_within counts r c f in let size : length counts ≡ 0 = ap length e in absurd (omega (arith, lt, size)) }

pub counts_few : (size : ℕ) (rows counts : List ℕ) (k row now : ℕ) → AreCounts size (take k rows) counts → k < length rows → row < size → now ≡ slice_index_or counts row 0 → now ≤ k
counts_few size rows counts k row now are lt within is =
    let size_is = are.size_is in
    let old = element counts row (omega arith) in
    let was : now ≡ count_of row (take k rows) = is ∙ get_or_from_slice_get counts row old.0 0 old.1 ∙ are.each row old.0 old.1 in
    let few = count_by-le-length (λ x. nat_eq x row) (take k rows) in
    let long = length-take-le k rows (omega arith) in
    omega (arith, was, few, long)
