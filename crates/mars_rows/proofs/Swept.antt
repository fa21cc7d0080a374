-- Rows that walks from pins meet.
use Rattle.std.proofs.Common.{◌≡◌, ◌⊎◌, ℕ, zero, suc, ◌<◌, ◌≤◌, ◌+◌, ◌||◌, Bool, true, false, cond, nat_eq, List, [], ◌∷◌, ◌++◌, length, map, Option, Some, None, option_and_then, slice_get, refl, sym, subst, ap, ◌∙◌, arith, inl, inr, IsSome, filter, eqb-true, eq-eqb}
use Rattle.std.specs.Option.{option_map}
use Rattle.std.specs.List.{flat_map, list_any, range_with_len}
use Rattle.std.proofs.lemmas.Bool.{false≢true, cases_eq}
use Rattle.std.proofs.lemmas.Option.{option_and_then_some, same_Some, slice_get_within, slice_get-get_or, get_or_from_slice_get, slice_get-map}
use Rattle.std.proofs.lemmas.List.Elements.{All-contains}
use Rattle.mars_tree.specs.Walk.{walk}
use Rattle.mars_tree.proofs.CallerLemmas.{short, walk_in}
use Rattle.mars_rows.specs.Rows.{Row, row_at, HasRow, kids_of_row, row_end}
use Rattle.mars_rows.specs.Object.{ends_after, is_met, sweep}
use Rattle.mars_rows.specs.TableLaws.{SweepMeans}
use Rattle.mars_rows.proofs.RowFacts.{rows_are_finite, place}
use Rattle.mars_rows.proofs.Found.{option_map_some}

-- an element, by its place
abbrev pub Has : List ℕ → ℕ → Type 0
Has xs x = (k : ℕ) × (slice_get xs k ≡ Some x)

either_true : (a b : Bool) → (a || b) ≡ true → (a ≡ true) ⊎ (b ≡ true)
either_true true b e = inl refl
either_true false b e = inr e

or_right : (a b : Bool) → b ≡ true → (a || b) ≡ true
or_right true b e = refl
or_right false b e = e

pub any_is : (x : ℕ) (xs : List ℕ) → list_any (nat_eq x) xs ≡ true → Has xs x
any_is x [] e = absurd (false≢true e)
any_is x (y ∷ xs) e = elim (either_true (nat_eq x y) (list_any (nat_eq x) xs) e) [
  | inl t ↦ (0, ap (λ z. Some z) (sym (eqb-true x y t)))
  | inr t ↦ let h = any_is x xs t in (suc h.0, h.1)
]

pub is_any : (x : ℕ) (xs : List ℕ) → Has xs x → list_any (nat_eq x) xs ≡ true
is_any x [] (k, e) = cc
is_any x (y ∷ xs) (zero, e) = rw (eq-eqb x y (sym (same_Some y x e))) refl
is_any x (y ∷ xs) (suc k, e) = or_right (nat_eq x y) (list_any (nat_eq x) xs) (is_any x xs (k, e))

has_append : (xs ys : List ℕ) (x : ℕ) → Has (xs ++ ys) x → Has xs x ⊎ Has ys x
has_append [] ys x h = inr h
has_append (y ∷ xs) ys x (zero, e) = inl (zero, e)
has_append (y ∷ xs) ys x (suc k, e) = elim (has_append xs ys x (k, e)) [ inl h ↦ inl (suc h.0, h.1) | inr h ↦ inr h ]

has_left : (xs ys : List ℕ) (x : ℕ) → Has xs x → Has (xs ++ ys) x
has_left [] ys x (k, e) = cc
has_left (y ∷ xs) ys x (zero, e) = (zero, e)
has_left (y ∷ xs) ys x (suc k, e) = let h = has_left xs ys x (k, e) in (suc h.0, h.1)

has_right : (xs ys : List ℕ) (x : ℕ) → Has ys x → Has (xs ++ ys) x
has_right [] ys x h = h
has_right (y ∷ xs) ys x h = let r = has_right xs ys x h in (suc r.0, r.1)

has_flat_map : (f : ℕ → List ℕ) (ns : List ℕ) (x : ℕ) → Has (flat_map f ns) x → (n : ℕ) × Has ns n × Has (f n) x
has_flat_map f [] x (k, e) = cc
has_flat_map f (n ∷ ns) x h = elim (has_append (f n) (flat_map f ns) x h) [
  | inl w ↦ (n, (0, refl), w)
  | inr w ↦ let r = has_flat_map f ns x w in (r.0, (suc r.1.0, r.1.1), r.2)
]

flat_map_has : (f : ℕ → List ℕ) (ns : List ℕ) (n x : ℕ) → Has ns n → Has (f n) x → Has (flat_map f ns) x
flat_map_has f [] n x (k, e) h = cc
flat_map_has f (m ∷ ns) n x (zero, e) h = has_left (f m) (flat_map f ns) x (subst (λ (i : ℕ). Has (f i) x) (sym (same_Some m n e)) h)
flat_map_has f (m ∷ ns) n x (suc k, e) h = has_right (f m) (flat_map f ns) x (flat_map_has f ns n x (k, e) h)

-- an end is that of a walk
ends_are : (rows : List Row) (count : ℕ) (starts : List ℕ) (h : ℕ) → Has (ends_after rows count starts) h → (n : ℕ) × Has starts n × (path : List ℕ) × (walk (kids_of_row rows) n path ≡ Some h)
ends_are rows zero starts h has = (h, has, [], refl)
ends_are rows (suc count) starts h has =
    let r = ends_are rows count (flat_map (kids_of_row rows) starts) h has in
    let s = has_flat_map (kids_of_row rows) starts r.0 r.1 in
    (s.0, s.1, s.2.0 ∷ r.2, ap (option_and_then (λ m. walk (kids_of_row rows) m r.2)) s.2.1 ∙ r.3)

are_ends : (rows : List Row) (path : List ℕ) (starts : List ℕ) (n h : ℕ) → Has starts n → walk (kids_of_row rows) n path ≡ Some h → Has (ends_after rows (length path) starts) h
are_ends rows [] starts n h has e = subst (Has starts) (same_Some n h e) has
are_ends rows (k ∷ path) starts n h has e =
    option_and_then_some (λ m. walk (kids_of_row rows) m path) (slice_get (kids_of_row rows n) k) h e (λ m first rest.
    are_ends rows path (flat_map (kids_of_row rows) starts) m h (flat_map_has (kids_of_row rows) starts n m has (k, first)) rest)

any_range : (p : ℕ → Bool) (from count : ℕ) → list_any p (range_with_len from count) ≡ true → (k : ℕ) × (p k ≡ true)
any_range p from zero e = absurd (false≢true e)
any_range p from (suc count) e = elim (either_true (p from) (list_any p (range_with_len (from + 1) count)) e) [ inl t ↦ (from, t) | inr t ↦ any_range p (from + 1) count t ]

range_any : (p : ℕ → Bool) (from count k : ℕ) → from ≤ k → k < from + count → p k ≡ true → list_any p (range_with_len from count) ≡ true
range_any p from zero k le lt e = absurd (omega arith)
range_any p from (suc count) k le lt e = elim (cases_eq from k) [
  | inl same ↦ let here : p from ≡ true = ap p same ∙ e in rw here refl
  | inr other ↦ or_right (p from) (list_any p (range_with_len (from + 1) count)) (range_any p (from + 1) count k (omega arith) (omega arith) e)
]

kept : (r : Row) (a b c : Bool) (x y : Option Row) → (c ≡ true → a ≡ b) → x ≡ cond b y None → cond a (cond c (Some r) x) x ≡ cond b (cond c (Some r) y) None
kept r true true true x y same e = refl
kept r true true false x y same e = e
kept r true false true x y same e = absurd (false≢true (sym (same refl)))
kept r true false false x y same e = e
kept r false true true x y same e = absurd (false≢true (same refl))
kept r false true false x y same e = e
kept r false false c x y same e = e

met_from : (b : Bool) (o : Option Row) → IsSome (cond b o None) → (b ≡ true) × IsSome o
met_from true o is = (refl, is)
met_from false o is = absurd (false≢true is)

-- a filter by number keeps a row or takes it out
pub row_at-filter : (q : ℕ → Bool) (rows : List Row) (h : ℕ) → row_at (filter (λ row. q row.number) rows) h ≡ cond (q h) (row_at rows h) None
row_at-filter q [] h = either (q h)
  where
    either : (b : Bool) → ◌≡◌ {A = Option Row} None (cond b None None)
    either true = refl
    either false = refl
row_at-filter q (r ∷ rows) h =
    first (q r.number) ∙ kept r (q r.number) (q h) (nat_eq r.number h) (row_at (filter (λ row. q row.number) rows) h) (row_at rows h) (λ e. ap q (eqb-true r.number h e)) (row_at-filter q rows h)
  where
    first : (a : Bool) → row_at (cond a (r ∷ filter (λ row. q row.number) rows) (filter (λ row. q row.number) rows)) h
        ≡ cond a (cond (nat_eq r.number h) (Some r) (row_at (filter (λ row. q row.number) rows) h)) (row_at (filter (λ row. q row.number) rows) h)
    first true = refl
    first false = refl

pub sweep_means : SweepMeans
sweep_means t closed pins =
    let met = λ (h : ℕ) (has : HasRow (sweep t).rows h). met_from (is_met t h) (row_at t.rows h) (subst (λ (o : Option Row). IsSome o) (row_at-filter (is_met t) t.rows h) has) in (
      λ h. (
        λ has.
            let k = any_range (λ count. list_any (nat_eq h) (ends_after t.rows count (map (λ pin. pin.1) t.pins))) 0 (length t.rows) (met h has).0 in
            let r = ends_are t.rows k.0 (map (λ pin. pin.1) t.pins) h (any_is h (ends_after t.rows k.0 (map (λ pin. pin.1) t.pins)) k.1) in
            let pin = option_map_some (λ (pin : ℕ × ℕ). pin.1) (slice_get t.pins r.1.0) r.0 (sym (slice_get-map (λ (pin : ℕ × ℕ). pin.1) t.pins r.1.0) ∙ r.1.1) in
            record {
              pin = pin.0;
              pinned = (r.1.0, slice_get_within t.pins r.1.0 pin.0 pin.1, get_or_from_slice_get t.pins r.1.0 pin.0 pin.0 pin.1);
              path = r.2;
              meets = ap (λ n. row_end t.rows n r.2) pin.2 ∙ r.3;
            },
        λ is.
            let start : HasRow t.rows is.pin.1 = All-contains (λ (pin : ℕ × ℕ). HasRow t.rows pin.1) t.pins is.pin pins is.pinned in
            let finite = rows_are_finite t.rows closed in
            let s = short (kids_of_row t.rows) (HasRow t.rows) (place t.rows) (length t.rows) finite is.pin.1 is.path h start is.meets in
            let has : HasRow t.rows h = walk_in (kids_of_row t.rows) (HasRow t.rows) (place t.rows) (length t.rows) finite is.pin.1 is.path h start is.meets in
            let at_pin : slice_get (map (λ (pin : ℕ × ℕ). pin.1) t.pins) is.pinned.0 ≡ Some is.pin.1 =
            slice_get-map (λ (pin : ℕ × ℕ). pin.1) t.pins is.pinned.0 ∙ ap (option_map (λ (pin : ℕ × ℕ). pin.1)) (slice_get-get_or t.pins is.pinned.0 is.pin is.pinned.1 ∙ ap (λ p. Some p) is.pinned.2) in
            let e : is_met t h ≡ true = range_any (λ count. list_any (nat_eq h) (ends_after t.rows count (map (λ pin. pin.1) t.pins))) 0 (length t.rows) (length s.0) (omega arith) (omega (arith, s.1))
            (is_any h (ends_after t.rows (length s.0) (map (λ pin. pin.1) t.pins)) (are_ends t.rows s.0 (map (λ pin. pin.1) t.pins) is.pin.1 h (is.pinned.0, at_pin) s.2)) in
            subst (λ (o : Option Row). IsSome o) (sym (row_at-filter (is_met t) t.rows h ∙ ap (λ b. cond b (row_at t.rows h) None) e)) has,
      ),
      λ h has. row_at-filter (is_met t) t.rows h ∙ ap (λ b. cond b (row_at t.rows h) None) (met h has).0,
    )
