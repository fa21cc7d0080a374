-- The nodes of a graph as rows.
use Rattle.std.proofs.Common.{◌≡◌, ◌≢◌, ℕ, zero, suc, ◌<◌, ◌≤◌, ◌+◌, Bool, true, false, cond, nat_eq, List, [], ◌∷◌, length, get_or, Option, Some, None, unwrap_or, slice_get, refl, sym, subst, ap, ◌∙◌, arith, All, IsSome, eq-eqb, eqb-true, ne_eqb}
use Rattle.std.specs.Option.{option_map}
use Rattle.std.specs.List.{cons_option, IsDistinct}
use Rattle.std.proofs.lemmas.Bool.{false≢true}
use Rattle.std.proofs.lemmas.Option.{same_Some}
use Rattle.std.proofs.lemmas.List.Elements.{All-head, All-tail, All-cons, All-nil, All-weaker}
use Rattle.mars_tree.specs.declared.label.Label.{Label}
use Rattle.mars_tree.specs.Label.{arity_of}
use Rattle.mars_tree.specs.Graph.{Node, IsGraph, IsGround, label_of, kids_of, free_leaf, arity_at, stands, shown_at, at}
use Rattle.mars_tree.proofs.CallerLemmas.{node_in, label_in, kid_in, same_from_bisimulation}
use Rattle.mars_rows.specs.Rows.{Row, row_at, HasRow, kids_of_row, label_of_row, shown_at_row, tree_of}
use Rattle.mars_rows.specs.Sound.{AreClosed, IsApart, IsSound}
use Rattle.mars_rows.proofs.Distinct.{numbers, apart_from}
use Rattle.mars_tree.specs.Canonical.{IsReduced}
use Rattle.mars_rows.specs.RowsInside.{as_row, rows_from, rows_of}

-- a node with a label is a row
row_is : (number : ℕ) (node : Node) → node.label ≢ None → (l : Label) × (node.label ≡ Some l) × (as_row number node ≡ Some (record { number = number; label = l; kids = node.kids }))
row_is number node some = by_label node.label refl
  where
    by_label : (o : Option Label) → node.label ≡ o → (l : Label) × (node.label ≡ Some l) × (as_row number node ≡ Some (record { number = number; label = l; kids = node.kids }))
    by_label None e = absurd (some e)
    by_label (Some l) e = (l, e, ap (option_map (λ (l : Label). record { number = number; label = l; kids = node.kids })) e)

first_row : (b : ℕ) (node : Node) (g : List Node) → node.label ≢ None → (row : Row) × (row.number ≡ b) × (as_row b node ≡ Some row) × (rows_from b (node ∷ g) ≡ row ∷ rows_from (b + 1) g)
first_row b node g some =
    let r = row_is b node some in
    (record { number = b; label = r.0; kids = node.kids }, refl, r.2, ap (λ o. cons_option o (rows_from (b + 1) g)) r.2)

-- the row of a number is that of the node there
pub row_at-stored : (b : ℕ) (g : List Node) (i h : ℕ) → h ≡ b + i → IsGround g → i < length g → row_at (rows_from b g) h ≡ as_row h (get_or g i free_leaf)
row_at-stored b [] i h e ground lt = absurd (omega (arith, lt))
row_at-stored b (node ∷ g) zero h e ground lt =
    let r = first_row b node g (All-head (λ node. node.label ≢ None) node g ground) in
    let same : nat_eq r.0.number h ≡ true = eq-eqb r.0.number h (omega (arith, r.1)) in
    ap (λ rows. row_at rows h) r.3 ∙ ap (λ t. cond t (Some r.0) (row_at (rows_from (b + 1) g) h)) same ∙ sym r.2 ∙ ap (λ n. as_row n node) (omega arith)
row_at-stored b (node ∷ g) (suc i) h e ground lt =
    let r = first_row b node g (All-head (λ node. node.label ≢ None) node g ground) in
    let other : nat_eq r.0.number h ≡ false = ne_eqb r.0.number h (λ s. absurd (omega (arith, r.1, s))) in
    ap (λ rows. row_at rows h) r.3 ∙ ap (λ t. cond t (Some r.0) (row_at (rows_from (b + 1) g) h)) other
    ∙ row_at-stored (b + 1) g i h (omega arith) (All-tail (λ node. node.label ≢ None) node g ground) (omega (arith, lt))

-- a number that has a row is that of a node
pub stored_below : (b : ℕ) (g : List Node) (h : ℕ) → IsGround g → HasRow (rows_from b g) h → (b ≤ h) × (h < b + length g)
stored_below b [] h ground has = absurd (false≢true has)
stored_below b (node ∷ g) h ground has =
    let r = first_row b node g (All-head (λ node. node.label ≢ None) node g ground) in
    let has' : IsSome (cond (nat_eq r.0.number h) (Some r.0) (row_at (rows_from (b + 1) g) h)) = subst (λ (rows : List Row). HasRow rows h) r.3 has in
    step r.0 (nat_eq r.0.number h) (row_at (rows_from (b + 1) g) h) r.1 (eqb-true r.0.number h) has' (stored_below (b + 1) g h (All-tail (λ node. node.label ≢ None) node g ground))
  where
    step : (row : Row) (t : Bool) (o : Option Row) → row.number ≡ b → (t ≡ true → row.number ≡ h) → IsSome (cond t (Some row) o) → (IsSome o → (b + 1 ≤ h) × (h < b + 1 + length g)) → (b ≤ h) × (h < b + length (node ∷ g))
    step row true o e f is rest = (omega (arith, e, f refl), omega (arith, e, f refl))
    step row false o e f is rest = (omega (arith, rest is), omega (arith, rest is))

pub length-stored : (b : ℕ) (g : List Node) → IsGround g → length (rows_from b g) ≡ length g
length-stored b [] ground = refl
length-stored b (node ∷ g) ground =
    let r = first_row b node g (All-head (λ node. node.label ≢ None) node g ground) in
    ap length r.3 ∙ ap suc (length-stored (b + 1) g (All-tail (λ node. node.label ≢ None) node g ground))

pub stored_number : (number : ℕ) (node : Node) (row : Row) → as_row number node ≡ Some row → row.number ≡ number
stored_number number node row e = by_label node.label e
  where
    by_label : (o : Option Label) → option_map (λ l. record { number = number; label = l; kids = node.kids }) o ≡ Some row → row.number ≡ number
    by_label None f = cc
    by_label (Some l) f = ap (λ (r : Row). r.number) (sym (same_Some (record { number = number; label = l; kids = node.kids }) row f))

-- what holds of each node as a row holds of all
pub All-stored : (P : Row → Type 0) (b : ℕ) (g : List Node) → IsGround g → ((i : ℕ) (row : Row) → i < length g → as_row (b + i) (get_or g i free_leaf) ≡ Some row → P row) → All P (rows_from b g)
All-stored P b [] ground each = All-nil P
All-stored P b (node ∷ g) ground each =
    let r = first_row b node g (All-head (λ node. node.label ≢ None) node g ground) in
    let here : P r.0 = each 0 r.0 (omega arith) (ap (λ n. as_row n node) (omega arith) ∙ r.2) in
    let rest : All P (rows_from (b + 1) g) = All-stored P (b + 1) g (All-tail (λ node. node.label ≢ None) node g ground)
    (λ i row lt e. each (suc i) row (omega (arith, lt)) (ap (λ n. as_row n (get_or g i free_leaf)) (omega arith) ∙ e)) in
    subst (All P) (sym r.3) (All-cons P r.0 (rows_from (b + 1) g) here rest)

module _ (g : List Node) (g_is : IsGraph g) (ground : IsGround g) where
  node_row : (i : ℕ) → i < length g → row_at (rows_of g) i ≡ as_row i (get_or g i free_leaf)
  node_row i lt = row_at-stored 0 g i i (omega arith) ground lt

  pub has_stored : (i : ℕ) → i < length g → HasRow (rows_of g) i
  has_stored i lt =
      let r = row_is i (get_or g i free_leaf) (label_in g i ground lt) in
      subst (λ (o : Option Row). IsSome o) (sym (node_row i lt ∙ r.2)) refl

  pub label_stored : (i : ℕ) → i < length g → label_of_row (rows_of g) i ≡ label_of g i
  label_stored i lt =
      let r = row_is i (get_or g i free_leaf) (label_in g i ground lt) in
      ap (option_map (λ (row : Row). row.label)) (node_row i lt ∙ r.2) ∙ sym r.1

  pub kids_stored : (i : ℕ) → i < length g → kids_of_row (rows_of g) i ≡ kids_of g i
  kids_stored i lt =
      let r = row_is i (get_or g i free_leaf) (label_in g i ground lt) in
      ap (λ (o : Option Row). unwrap_or (option_map (λ (row : Row). row.kids) o) []) (node_row i lt ∙ r.2)

  -- a row's tree is that of its node
  pub tree_stored : (i : ℕ) → i < length g → (path : List ℕ) → tree_of (rows_of g) i path ≡ at g i path
  tree_stored i lt =
      same_from_bisimulation (kids_of_row (rows_of g)) (shown_at_row (rows_of g)) (kids_of g) (shown_at g)
      (λ i j. (i < length g) × (i ≡ j)) (record {
        shown = λ i j r. ap (λ o. stands o i) (label_stored i r.0) ∙ ap (shown_at g) r.1;
        count = λ i j r. ap length (kids_stored i r.0) ∙ ap (λ n. length (kids_of g n)) r.1;
        follows = λ i j k x y r left right.
            let left' : slice_get (kids_of g i) k ≡ Some x = ap (λ xs. slice_get xs k) (sym (kids_stored i r.0)) ∙ left in
            (kid_in g i k x g_is r.0 left', same_Some x y (sym left' ∙ ap (λ n. slice_get (kids_of g n) k) r.1 ∙ right));
      }) i i (lt, refl)

  pub closed_stored : AreClosed (rows_of g)
  closed_stored = record {
    count = All-stored (λ row. length row.kids ≡ arity_of row.label) 0 g ground (λ i row lt e.
        let r = row_is (0 + i) (get_or g i free_leaf) (label_in g i ground lt) in
        let same : record { number = 0 + i; label = r.0; kids = kids_of g i } ≡ row = same_Some (record { number = 0 + i; label = r.0; kids = kids_of g i }) row (sym r.2 ∙ e) in
        subst (λ (x : Row). length x.kids ≡ arity_of x.label) same ((node_in g i g_is lt).kids ∙ ap arity_at r.1));
    kids = All-stored (λ row. All (HasRow (rows_of g)) row.kids) 0 g ground (λ i row lt e.
        let r = row_is (0 + i) (get_or g i free_leaf) (label_in g i ground lt) in
        let same : record { number = 0 + i; label = r.0; kids = kids_of g i } ≡ row = same_Some (record { number = 0 + i; label = r.0; kids = kids_of g i }) row (sym r.2 ∙ e) in
        subst (λ (x : Row). All (HasRow (rows_of g)) x.kids) same
        (All-weaker (λ kid. kid < length g) (HasRow (rows_of g)) (λ kid lt. has_stored kid lt) (kids_of g i) (node_in g i g_is lt).in_range));
  }

  pub stored_in : (h : ℕ) → HasRow (rows_of g) h → h < length g
  stored_in h has = let b = stored_below 0 g h ground has in omega (arith, b.1)

  pub apart_stored : IsReduced g → IsApart (rows_of g)
  apart_stored apart a b has_a has_b same =
      let a_in : a < length g = stored_in a has_a in
      let b_in : b < length g = stored_in b has_b in
      apart a b a_in b_in (λ path. sym (tree_stored a a_in path) ∙ same path ∙ tree_stored b b_in path)

-- numbers rise
pub distinct_stored : (b : ℕ) (g : List Node) → IsGround g → IsDistinct nat_eq (numbers (rows_from b g))
unfolding IsDistinct
distinct_stored b [] ground = tt
distinct_stored b (node ∷ g) ground =
    let r = first_row b node g (All-head (λ node. node.label ≢ None) node g ground) in
    let rest_ground : IsGround g = All-tail (λ node. node.label ≢ None) node g ground in
    let past : All (λ row. r.0.number ≢ row.number) (rows_from (b + 1) g) = All-stored (λ row. r.0.number ≢ row.number) (b + 1) g rest_ground
    (λ i row lt e s. absurd (omega (arith, r.1, s, stored_number (b + 1 + i) (get_or g i free_leaf) row e))) in
    subst (λ (rows : List Row). IsDistinct nat_eq (numbers rows)) (sym r.3) (apart_from r.0.number (rows_from (b + 1) g) past, distinct_stored (b + 1) g rest_ground)

pub below_stored : (g : List Node) → IsGround g → All (λ row. row.number < length g) (rows_of g)
below_stored g ground = All-stored (λ row. row.number < length g) 0 g ground (λ i row lt e. omega (arith, lt, stored_number (0 + i) (get_or g i free_leaf) row e))

-- what the fields hold is sound
pub sound_stored : (g : List Node) (pins : List (ℕ × ℕ)) (cap : ℕ) → IsGraph g → IsGround g → IsReduced g → All (λ pin. pin.1 < length g) pins → length g ≤ cap →
    IsSound (record { rows = rows_of g; pins = pins; next = length g; limit = cap })
sound_stored g pins cap g_is ground apart pinned within = record {
  numbers = distinct_stored 0 g ground;
  below = below_stored g ground;
  closed = closed_stored g g_is ground;
  pins = All-weaker (λ (pin : ℕ × ℕ). pin.1 < length g) (λ (pin : ℕ × ℕ). HasRow (rows_of g) pin.1) (λ pin lt. has_stored g g_is ground pin.1 lt) pins pinned;
  limit = omega (arith, within, length-stored 0 g ground);
  apart = apart_stored g g_is ground apart;
}
