-- Rows that walks from pins meet, after an interning and after a sweep.
use Rattle.std.proofs.Common.{◌≡◌, ℕ, zero, suc, ◌<◌, ◌+◌, Bool, true, false, cond, nat_eq, nat_lt, List, [], ◌∷◌, ◌++◌, length, filter, Option, Some, None, option_and_then, slice_get, refl, sym, subst, ap, ◌∙◌, arith, inl, inr, All, IsSome, eq-eqb}
use Rattle.std.specs.Option.{option_map}
use Rattle.std.proofs.lemmas.Option.{option_and_then_some, same_Some, slice_get-map}
use Rattle.std.proofs.lemmas.List.Elements.{All-contains, Contains-append_left, Contains-push, filter_passes}
use Rattle.mars_tree.specs.Graph.{Node, IsGraph, IsGround, kids_of, end_of, Same}
use Rattle.mars_tree.proofs.CallerLemmas.{kid_in}
use Rattle.mars_rows.specs.Rows.{Row, row_at, HasRow, kids_of_row, row_end, IsRowOf}
use Rattle.mars_rows.specs.Object.{TableObject, fresh_before, fresh_rows, row_number, sweep, is_met, intern}
use Rattle.mars_rows.specs.Object.Interned.{kept, full}
use Rattle.mars_rows.specs.Sound.{AreClosed, IsApart, IsMet}
use Rattle.mars_rows.specs.Lasting.{KeepsTrees, InternKeepsTrees}
use Rattle.mars_rows.specs.Met.{AreAllMet, InternKeepsMet, SweepKeepsMet}
use Rattle.mars_rows.proofs.TreeFacts.{tree_some, reached_below}
use Rattle.mars_rows.proofs.RowFacts.{some_of, number_at, kid_is_row, All-find}
use Rattle.mars_rows.proofs.Interning.{old_has, has_number, old_or_node, intern_means}
use Rattle.mars_rows.proofs.Swept.{sweep_means}

module _ (rows : List Row) (next : ℕ) (g : List Node) (closed : AreClosed rows) (apart : IsApart rows) (below : All (λ row. row.number < next) rows)
    (g_is : IsGraph g) (ground : IsGround g) (distinct : (i j : ℕ) → i < length g → j < length g → Same g i g j → i ≡ j) where
  -- a walk over old rows stays
  stays : (path : List ℕ) (n h : ℕ) → HasRow rows n → row_end rows n path ≡ Some h → row_end (rows ++ fresh_rows rows next g) n path ≡ Some h
  stays [] n h has e = e
  stays (k ∷ path) n h has e =
      option_and_then_some (λ m. row_end rows m path) (slice_get (kids_of_row rows n) k) h e (λ m first rest.
      ap (λ xs. option_and_then (λ kid. row_end (rows ++ fresh_rows rows next g) kid path) (slice_get xs k)) (old_has rows next g closed apart below g_is ground distinct n has).2 ∙
      ap (option_and_then (λ kid. row_end (rows ++ fresh_rows rows next g) kid path)) first ∙
      stays path m h (kid_is_row rows n k m closed has first) rest)

  -- a walk over nodes is one over their rows
  carries : (path : List ℕ) (a b : ℕ) → a < length g → end_of g a path ≡ Some b → row_end (rows ++ fresh_rows rows next g) (row_number rows next g a) path ≡ Some (row_number rows next g b)
  carries [] a b a_in e = ap (λ n. Some (row_number rows next g n)) (same_Some a b e)
  carries (k ∷ path) a b a_in e =
      option_and_then_some (λ m. end_of g m path) (slice_get (kids_of g a) k) b e (λ m first rest.
      ap (λ xs. option_and_then (λ kid. row_end (rows ++ fresh_rows rows next g) kid path) (slice_get xs k)) (has_number rows next g closed apart below g_is ground distinct a a_in).2 ∙
      ap (option_and_then (λ kid. row_end (rows ++ fresh_rows rows next g) kid path)) (slice_get-map (row_number rows next g) (kids_of g a) k ∙ ap (option_map (row_number rows next g)) first) ∙
      carries path m b (kid_in g a k m g_is a_in first) rest)

-- the table after an interning: the fresh rows and the pin
abbrev pub grown : TableObject → ℕ → List Node → TableObject
grown t who g = record {
  rows = t.rows ++ fresh_rows t.rows t.next g;
  pins = t.pins ++ (who, row_number t.rows t.next g 0) ∷ [];
  next = t.next + fresh_before t.rows g (length g);
  limit = t.limit;
}

chosen_kept : (b : Bool) (r f l root h : ℕ) (new t : TableObject) → cond b (full r f l) (kept root new) ≡ kept h t → (root ≡ h) × (new ≡ t)
chosen_kept true r f l root h new t e = absurd cc
chosen_kept false r f l root h new t e = (cc, cc)

pub intern_kept : (t new : TableObject) (who h : ℕ) (g : List Node) → intern t who g ≡ kept h new → (row_number t.rows t.next g 0 ≡ h) × (grown t who g ≡ new)
intern_kept t new who h g e =
    chosen_kept (nat_lt t.limit (length t.rows + fresh_before t.rows g (length g))) (length t.rows) (fresh_before t.rows g (length g)) t.limit (row_number t.rows t.next g 0) h (grown t who g) new e

pub intern_keeps_trees : InternKeepsTrees
intern_keeps_trees t new who h g sound is e =
    let k = intern_kept t new who h g e in
    let m = intern_means t.rows t.next g sound.closed sound.apart sound.below is.graph is.labels is.canonical.distinct in
    let root = m.trees 0 (tree_some g is) in (
      subst (λ (n : TableObject). KeepsTrees t n) k.1 (λ n has. ((old_has t.rows t.next g sound.closed sound.apart sound.below is.graph is.labels is.canonical.distinct n has).0, m.kept n has)),
      subst (λ (n : TableObject). HasRow n.rows h) k.1 (subst (λ (i : ℕ). HasRow (grown t who g).rows i) k.0 root.0),
      subst (λ (n : TableObject). IsRowOf n.rows h g 0) k.1 (subst (λ (i : ℕ). IsRowOf (grown t who g).rows i g 0) k.0 root.1),
    )

pub intern_keeps_met : InternKeepsMet
intern_keeps_met t new who h g sound met is e =
    let by = λ (n : ℕ) (has : HasRow (grown t who g).rows n).
    elim (old_or_node t.rows t.next g sound.closed sound.apart sound.below is.graph is.labels is.canonical.distinct n has) as (λ w. IsMet (grown t who g) n) [
      | inl old ↦
          let m = met n old in record {
            pin = m.pin;
            pinned = Contains-append_left t.pins ((who, row_number t.rows t.next g 0) ∷ []) m.pin m.pinned;
            path = m.path;
            meets = stays t.rows t.next g sound.closed sound.apart sound.below is.graph is.labels is.canonical.distinct m.path m.pin.1 n
                (All-contains (λ (pin : ℕ × ℕ). HasRow t.rows pin.1) t.pins m.pin sound.pins m.pinned) m.meets;
          }
      | inr w ↦
          let r = reached_below g is.canonical (suc w.0) w.0 (omega arith) w.1 in
          record {
            pin = (who, row_number t.rows t.next g 0);
            pinned = Contains-push t.pins (who, row_number t.rows t.next g 0);
            path = r.0;
            meets = carries t.rows t.next g sound.closed sound.apart sound.below is.graph is.labels is.canonical.distinct r.0 0 w.0 (tree_some g is) r.1 ∙ ap (λ n. Some n) w.3;
          }
    ] in
    subst AreAllMet (intern_kept t new who h g e).1 by

-- a filter by number that takes a row shows that the number passes
pub passes : (q : ℕ → Bool) (rows : List Row) (h : ℕ) → HasRow (filter (λ row. q row.number) rows) h → q h ≡ true
passes q rows h has =
    let row = some_of (row_at (filter (λ row. q row.number) rows) h) has in
    ap q (sym (number_at (filter (λ row. q row.number) rows) h row.0 row.1)) ∙
    All-find (λ row. q row.number ≡ true) (λ row. nat_eq row.number h) (filter (λ row. q row.number) rows) row.0 (filter_passes (λ row. q row.number) rows) row.1

-- a row is found under its own number
pub own_row : (rows : List Row) (i : ℕ) (row : Row) → slice_get rows i ≡ Some row → HasRow rows row.number
own_row [] i row e = absurd (let e' : None ≡ Some row = e in cc)
own_row (r ∷ rows) zero row e =
    let same : nat_eq r.number row.number ≡ true = eq-eqb r.number row.number (ap (λ (x : Row). x.number) (same_Some r row e)) in
    subst (λ (b : Bool). IsSome (cond b (Some r) (row_at rows row.number))) (sym same) refl
own_row (r ∷ rows) (suc i) row e = either (nat_eq r.number row.number) (row_at rows row.number) (own_row rows i row e)
  where
    either : (b : Bool) (o : Option Row) → IsSome o → IsSome (cond b (Some r) o)
    either true o is = refl
    either false o is = is

-- a filter that all pass
filter-all : (p : Row → Bool) (rows : List Row) → ((i : ℕ) (row : Row) → slice_get rows i ≡ Some row → p row ≡ true) → filter p rows ≡ rows
filter-all p [] each = refl
filter-all p (r ∷ rows) each = ap (λ b. cond b (r ∷ filter p rows) (filter p rows)) (each 0 r refl) ∙ ap (λ rs. r ∷ rs) (filter-all p rows (λ i. each (suc i)))

pub sweep_keeps_met : SweepKeepsMet
sweep_keeps_met t sound met =
    let means = sweep_means t sound.closed sound.pins in
    let same : (sweep t).rows ≡ t.rows = filter-all (λ row. is_met t row.number) t.rows (λ i row at.
    passes (is_met t) t.rows row.number ((means.0 row.number).1 (met row.number (own_row t.rows i row at)))) in
    ap (λ rows. record t { rows = rows }) same
