-- Rows under other numbers: the same trees, found under the new numbers.
use Rattle.std.proofs.Common.{◌≡◌, ℕ, zero, suc, ◌<◌, ◌≤◌, ◌+◌, Bool, true, false, cond, nat_eq, is_none, List, [], ◌∷◌, length, map, Option, Some, None, unwrap_or, option_and_then, slice_get, find, refl, sym, subst, ap, ◌∙◌, arith, inl, inr, All, IsSome, eq-eqb, ne_eqb}
use Rattle.std.specs.Option.{option_map}
use Rattle.std.specs.List.{filter_map, cons_option, range_with_len}
use Rattle.std.proofs.lemmas.Bool.{cases_eq}
use Rattle.std.proofs.lemmas.Option.{same_Some, slice_get-map}
use Rattle.std.proofs.lemmas.List.{length-map}
use Rattle.mars_base.proofs.ListFacts.{All-get, All-from_gets, map-same}
use Rattle.mars_tree.specs.declared.label.Label.{Label}
use Rattle.mars_tree.specs.Label.{arity_of}
use Rattle.mars_tree.specs.Graph.{Node, IsGraph, IsGround, label_of, kids_of, stands}
use Rattle.mars_tree.proofs.CallerLemmas.{kid_in, same_from_bisimulation}
use Rattle.mars_rows.specs.Rows.{Row, row_at, HasRow, kids_of_row, label_of_row, shown_at_row, row_end, tree_of}
use Rattle.mars_rows.specs.Sound.{AreClosed, IsApart}
use Rattle.mars_rows.specs.Finding.{find_row}
use Rattle.mars_rows.specs.Object.{fresh_before, row_number, fresh_row, fresh_rows}
use Rattle.mars_rows.specs.StockInside.{under}
use Rattle.mars_rows.proofs.RowFacts.{chosen, some_of, number_at, kid_is_row}
use Rattle.mars_rows.proofs.Found.{find_means, option_map_some}
use Rattle.mars_rows.proofs.Interning.{none_or_some}
use Rattle.mars_rows.proofs.FreshRows.{in_range_of, number_some, number_none, number_below}
use Rattle.mars_rows.proofs.Pinned.{own_row}

row_at-under : (f : ℕ → ℕ) (rows : List Row) (h : ℕ) → ((i : ℕ) (row : Row) → slice_get rows i ≡ Some row → f row.number ≡ f h → row.number ≡ h) →
    row_at (map (under f) rows) (f h) ≡ option_map (under f) (row_at rows h)
row_at-under f [] h one = refl
row_at-under f (r ∷ rows) h one = elim (cases_eq r.number h) [
  | inl same ↦
      let a : nat_eq r.number h ≡ true = eq-eqb r.number h same in
      let b : nat_eq (f r.number) (f h) ≡ true = eq-eqb (f r.number) (f h) (ap f same) in
      ap (λ t. cond t (Some (under f r)) (row_at (map (under f) rows) (f h))) b ∙ sym (ap (λ t. option_map (under f) (cond t (Some r) (row_at rows h))) a)
  | inr other ↦
      let a : nat_eq r.number h ≡ false = ne_eqb r.number h other in
      let b : nat_eq (f r.number) (f h) ≡ false = ne_eqb (f r.number) (f h) (λ e. other (one 0 r refl e)) in
      ap (λ t. cond t (Some (under f r)) (row_at (map (under f) rows) (f h))) b ∙ row_at-under f rows h (λ i. one (suc i)) ∙ sym (ap (λ t. option_map (under f) (cond t (Some r) (row_at rows h))) a)
]

-- what is found is in the list
pub find_get : {X : Type 0} (p : X → Bool) (xs : List X) (x : X) → find p xs ≡ Some x → (i : ℕ) × (slice_get xs i ≡ Some x)
find_get p [] x e = cc
find_get p (y ∷ xs) x e = elim (chosen (p y) (Some y) (find p xs) (Some x) e) [
  | inl w ↦ (0, w.1)
  | inr w ↦ let r = find_get p xs x w.1 in (suc r.0, r.1)
]

is_none-map : {A B : Type 0} (f : A → B) (o : Option A) → is_none (option_map f o) ≡ is_none o
is_none-map f None = refl
is_none-map f (Some x) = refl

pub map-twice : {A B C : Type 0} (f : B → C) (h : A → B) (xs : List A) → map f (map h xs) ≡ map (λ x. f (h x)) xs
map-twice f h [] = refl
map-twice f h (x ∷ xs) = ap (λ ys. f (h x) ∷ ys) (map-twice f h xs)

-- what gives the same but for a map
filter_map-map : {A B C : Type 0} (u : B → C) (p : A → Option C) (q : A → Option B) (xs : List A) → ((k : ℕ) (x : A) → slice_get xs k ≡ Some x → p x ≡ option_map u (q x)) → filter_map p xs ≡ map u (filter_map q xs)
filter_map-map u p q [] each = refl
filter_map-map {B = B} {C = C} u p q (x ∷ xs) each =
    ap (λ o. cons_option o (filter_map p xs)) (each 0 x refl) ∙ ap (cons_option (option_map u (q x))) (filter_map-map u p q xs (λ k. each (suc k))) ∙ either (q x)
  where
    either : (o : Option B) → cons_option (option_map u o) (map u (filter_map q xs)) ≡ map u (cons_option o (filter_map q xs))
    either None = refl
    either (Some y) = refl

module _ (rows : List Row) (f : ℕ → ℕ) (closed : AreClosed rows) (one : (a b : ℕ) → HasRow rows a → HasRow rows b → f a ≡ f b → a ≡ b) where
  row_under : (h : ℕ) → HasRow rows h → row_at (map (under f) rows) (f h) ≡ option_map (under f) (row_at rows h)
  row_under h has = row_at-under f rows h (λ i row at e. one row.number h (own_row rows i row at) has e)

  pub has_under : (h : ℕ) → HasRow rows h → HasRow (map (under f) rows) (f h)
  has_under h has =
      let r = some_of (row_at rows h) has in
      subst (λ (o : Option Row). IsSome o) (sym (row_under h has ∙ ap (option_map (under f)) r.1)) refl

  -- each row is an old one
  pub old_of : (h : ℕ) → HasRow (map (under f) rows) h → (k : ℕ) × HasRow rows k × (f k ≡ h)
  old_of h has =
      let r = some_of (row_at (map (under f) rows) h) has in
      let i = find_get (λ (row : Row). nat_eq row.number h) (map (under f) rows) r.0 r.1 in
      let old = option_map_some (under f) (slice_get rows i.0) r.0 (sym (slice_get-map (under f) rows i.0) ∙ i.1) in
      (old.0.number, own_row rows i.0 old.0 old.1, ap (λ (row : Row). row.number) old.2 ∙ number_at (map (under f) rows) h r.0 r.1)

  label_under : (h : ℕ) → HasRow rows h → label_of_row (map (under f) rows) (f h) ≡ label_of_row rows h
  label_under h has =
      let r = some_of (row_at rows h) has in
      ap (option_map (λ (row : Row). row.label)) (row_under h has ∙ ap (option_map (under f)) r.1) ∙ sym (ap (option_map (λ (row : Row). row.label)) r.1)

  pub kids_under : (h : ℕ) → HasRow rows h → kids_of_row (map (under f) rows) (f h) ≡ map f (kids_of_row rows h)
  kids_under h has =
      let r = some_of (row_at rows h) has in
      ap (λ (o : Option Row). unwrap_or (option_map (λ (row : Row). row.kids) o) []) (row_under h has ∙ ap (option_map (under f)) r.1)
      ∙ sym (ap (λ (o : Option Row). map f (unwrap_or (option_map (λ (row : Row). row.kids) o) [])) r.1)

  -- a walk leads to the number of what it led to
  pub end_under : (path : List ℕ) (h : ℕ) → HasRow rows h → row_end (map (under f) rows) (f h) path ≡ option_map f (row_end rows h path)
  end_under [] h has = refl
  end_under (k ∷ path) h has =
      ap (λ xs. option_and_then (λ kid. row_end (map (under f) rows) kid path) (slice_get xs k)) (kids_under h has)
      ∙ ap (option_and_then (λ kid. row_end (map (under f) rows) kid path)) (slice_get-map f (kids_of_row rows h) k)
      ∙ either (slice_get (kids_of_row rows h) k) (λ m e. end_under path m (kid_is_row rows h k m closed has e))
    where
      either : (o : Option ℕ) → ((m : ℕ) → o ≡ Some m → row_end (map (under f) rows) (f m) path ≡ option_map f (row_end rows m path)) →
          option_and_then (λ kid. row_end (map (under f) rows) kid path) (option_map f o) ≡ option_map f (option_and_then (λ kid. row_end rows kid path) o)
      either None rest = refl
      either (Some m) rest = rest m refl

  -- the tree of a row stays
  pub tree_under : (h : ℕ) → HasRow rows h → (path : List ℕ) → tree_of (map (under f) rows) (f h) path ≡ tree_of rows h path
  tree_under h has =
      same_from_bisimulation (kids_of_row (map (under f) rows)) (shown_at_row (map (under f) rows)) (kids_of_row rows) (shown_at_row rows)
      (λ i j. HasRow rows j × (i ≡ f j)) (record {
        shown = λ i j r.
            let row = some_of (row_at rows j) r.0 in
            let label : label_of_row rows j ≡ Some row.0.label = ap (option_map (λ (row : Row). row.label)) row.1 in
            ap (λ o. stands o i) (ap (label_of_row (map (under f) rows)) r.1 ∙ label_under j r.0 ∙ label) ∙ sym (ap (λ o. stands o j) label);
        count = λ i j r. ap length (ap (kids_of_row (map (under f) rows)) r.1 ∙ kids_under j r.0) ∙ length-map (kids_of_row rows j) f;
        follows = λ i j k x y r left right. (
          kid_is_row rows j k y closed r.0 right,
          same_Some x (f y) (sym left ∙ ap (λ xs. slice_get xs k) (ap (kids_of_row (map (under f) rows)) r.1 ∙ kids_under j r.0) ∙ slice_get-map f (kids_of_row rows j) k ∙ ap (option_map f) right),
        );
      }) (f h) h (has, refl)

  pub closed_under : AreClosed (map (under f) rows)
  closed_under = record {
    count = All-from_gets (λ (row : Row). length row.kids ≡ arity_of row.label) (map (under f) rows) (λ i row e.
        let old = option_map_some (under f) (slice_get rows i) row (sym (slice_get-map (under f) rows i) ∙ e) in
        subst (λ (x : Row). length x.kids ≡ arity_of x.label) old.2 (length-map old.0.kids f ∙ All-get (λ (row : Row). length row.kids ≡ arity_of row.label) rows i old.0 closed.count old.1));
    kids = All-from_gets (λ (row : Row). All (HasRow (map (under f) rows)) row.kids) (map (under f) rows) (λ i row e.
        let old = option_map_some (under f) (slice_get rows i) row (sym (slice_get-map (under f) rows i) ∙ e) in
        subst (λ (x : Row). All (HasRow (map (under f) rows)) x.kids) old.2 (All-from_gets (HasRow (map (under f) rows)) (map f old.0.kids) (λ k kid there.
        let was = option_map_some f (slice_get old.0.kids k) kid (sym (slice_get-map f old.0.kids k) ∙ there) in
        subst (HasRow (map (under f) rows)) was.2 (has_under was.0
        (All-get (HasRow rows) old.0.kids k was.0 (All-get (λ (row : Row). All (HasRow rows) row.kids) rows i old.0 closed.kids old.1) was.1)))));
  }

  module _ (apart : IsApart rows) where
    pub apart_under : IsApart (map (under f) rows)
    apart_under a b has_a has_b same =
        let x = old_of a has_a in
        let y = old_of b has_b in
        sym x.2 ∙ ap f (apart x.0 y.0 x.1 y.1 (λ path. sym (tree_under x.0 x.1 path) ∙ ap (λ n. tree_of (map (under f) rows) n path) x.2 ∙ same path ∙ sym (ap (λ n. tree_of (map (under f) rows) n path) y.2) ∙ tree_under y.0 y.1 path)) ∙ y.2

    module _ (g : List Node) (g_is : IsGraph g) (ground : IsGround g) where
      -- what is found is found under its new number
      pub find_under : (n : ℕ) → n < length g → find_row (map (under f) rows) g n ≡ option_map f (find_row rows g n)
      find_under n n_in =
          let before = λ (h : ℕ). find_means rows g n h closed apart g_is ground n_in in
          let after = λ (h : ℕ). find_means (map (under f) rows) g n h closed_under apart_under g_is ground n_in in
          elim (none_or_some (find_row rows g n)) [
            | inr found ↦
                let m = (before found.0).0 found.1 in
                (after (f found.0)).1 (has_under found.0 m.0, λ path. tree_under found.0 m.0 path ∙ m.1 path) ∙ sym (ap (option_map f) found.1)
            | inl none ↦ elim (none_or_some (find_row (map (under f) rows) g n)) [
              | inl e ↦ e ∙ sym (ap (option_map f) none)
              | inr found ↦
                  let m = (after found.0).0 found.1 in
                  let old = old_of found.0 m.0 in
                  let e : find_row rows g n ≡ Some old.0 = (before old.0).1 (old.1, λ path. sym (tree_under old.0 old.1 path) ∙ ap (λ i. tree_of (map (under f) rows) i path) old.2 ∙ m.1 path) in
                  absurd (let no : None ≡ Some old.0 = sym none ∙ e in cc)
            ]
          ]

      -- as many nodes are fresh
      pub fresh_under : (n : ℕ) → n ≤ length g → fresh_before (map (under f) rows) g n ≡ fresh_before rows g n
      fresh_under zero le = refl
      fresh_under (suc n) le =
          let here : is_none (find_row (map (under f) rows) g n) ≡ is_none (find_row rows g n) = ap (λ (o : Option ℕ). is_none o) (find_under n (omega (arith, le))) ∙ is_none-map f (find_row rows g n) in
          ap (λ b. fresh_before (map (under f) rows) g n + cond b 1 0) here ∙ ap (λ k. k + cond (is_none (find_row rows g n)) 1 0) (fresh_under n (omega (arith, le)))

      module _ (base next : ℕ) (more : ℕ → ℕ) (old : (h : ℕ) → HasRow rows h → more h ≡ f h) (below : (h : ℕ) → HasRow rows h → h < base)
          (new : (k : ℕ) → k < fresh_before rows g (length g) → more (base + k) ≡ next + k) where
        -- the numbers of a tree's nodes
        pub number_under : (n : ℕ) → n < length g → row_number (map (under f) rows) next g n ≡ more (row_number rows base g n)
        number_under n n_in = elim (none_or_some (find_row rows g n)) [
          | inr found ↦
              let has : HasRow rows found.0 = ((find_means rows g n found.0 closed apart g_is ground n_in).0 found.1).0 in
              number_some (map (under f) rows) next g n (f found.0) (find_under n n_in ∙ ap (option_map f) found.1) ∙ sym (old found.0 has) ∙ ap more (sym (number_some rows base g n found.0 found.1))
          | inl none ↦
              let number : row_number rows base g n ≡ base + fresh_before rows g n = number_none rows base g n none in
              let lt : row_number rows base g n < base + fresh_before rows g (length g) =
              number_below rows base g n (length g) n_in (λ h e. below h ((find_means rows g n h closed apart g_is ground n_in).0 e).0) in
              number_none (map (under f) rows) next g n (find_under n n_in ∙ ap (option_map f) none)
              ∙ ap (λ k. next + k) (fresh_under n (omega (arith, n_in))) ∙ sym (new (fresh_before rows g n) (omega (arith, number, lt))) ∙ ap more (sym number)
        ]

        row_under_more : (n : ℕ) → n < length g → fresh_row (map (under f) rows) next g n ≡ option_map (under more) (fresh_row rows base g n)
        row_under_more n n_in =
            let kids : map (row_number (map (under f) rows) next g) (kids_of g n) ≡ map more (map (row_number rows base g) (kids_of g n)) =
            map-same (row_number (map (under f) rows) next g) (λ kid. more (row_number rows base g kid)) (kids_of g n) (λ k kid e. number_under kid (kid_in g n k kid g_is n_in e))
            ∙ sym (map-twice more (row_number rows base g) (kids_of g n)) in
            let here : is_none (find_row (map (under f) rows) g n) ≡ is_none (find_row rows g n) = ap (λ (o : Option ℕ). is_none o) (find_under n n_in) ∙ is_none-map f (find_row rows g n) in
            ap (λ b. cond b (option_map (λ l. record { number = row_number (map (under f) rows) next g n; label = l; kids = map (row_number (map (under f) rows) next g) (kids_of g n) }) (label_of g n)) None) here
            ∙ either (is_none (find_row rows g n)) (label_of g n) (number_under n n_in) kids
          where
            either : (b : Bool) (o : Option Label) → row_number (map (under f) rows) next g n ≡ more (row_number rows base g n) →
                map (row_number (map (under f) rows) next g) (kids_of g n) ≡ map more (map (row_number rows base g) (kids_of g n)) →
                cond b (option_map (λ l. record { number = row_number (map (under f) rows) next g n; label = l; kids = map (row_number (map (under f) rows) next g) (kids_of g n) }) o) None
                ≡ option_map (under more) (cond b (option_map (λ l. record { number = row_number rows base g n; label = l; kids = map (row_number rows base g) (kids_of g n) }) o) None)
            either false o number kids = refl
            either true None number kids = refl
            either true (Some l) number kids = ap (λ h. Some (record { number = h; label = l; kids = map (row_number (map (under f) rows) next g) (kids_of g n) })) number
                ∙ ap (λ xs. Some (record { number = more (row_number rows base g n); label = l; kids = xs })) kids

        -- the fresh rows
        pub rows_under : fresh_rows (map (under f) rows) next g ≡ map (under more) (fresh_rows rows base g)
        rows_under = filter_map-map (under more) (fresh_row (map (under f) rows) next g) (fresh_row rows base g) (range_with_len 0 (length g))
            (λ k n e. row_under_more n (omega (arith, in_range_of 0 (length g) k n e)))
