-- What is found.
use Rattle.std.proofs.Common.{◌≡◌, ℕ, zero, suc, ◌<◌, ◌*◌, ◌&&◌, Bool, true, false, nat_eq, List, [], ◌∷◌, length, Option, Some, None, slice_get, refl, sym, subst, ap, ◌∙◌, arith, find, eq-eqb}
use Rattle.std.specs.Option.{option_map}
use Rattle.std.specs.Bool.{Decides}
use Rattle.std.specs.List.{list_all, zip}
use Rattle.std.proofs.lemmas.Bool.{false≢true}
use Rattle.std.proofs.lemmas.Option.{same_Some}
use Rattle.mars_tree.specs.Equality.{same_label_at}
use Rattle.mars_tree.specs.EqualityLaws.{label_at_decides}
use Rattle.mars_tree.specs.Graph.{Node, IsGraph, IsGround, label_of, kids_of, arity_at, shown_at, at}
use Rattle.mars_tree.proofs.CallerLemmas.{node_in, graph_is_finite, label_from_stands, stands_from_label, label_in, kid_in, at_both, both_from_length, same_from_short}
use Rattle.mars_rows.specs.Rows.{Row, row_at, HasRow, kids_of_row, label_of_row, shown_at_row, tree_of, IsRowOf}
use Rattle.mars_rows.specs.Finding.{alike}
use Rattle.mars_rows.specs.Sound.{AreClosed}
use Rattle.mars_rows.specs.TableLaws.{FindMeans}
use Rattle.mars_rows.proofs.RowFacts.{some_of, find_passes, find_again, number_at, kid_is_row, rows_are_finite, row_kids, place}

both_true : (a b : Bool) → (a && b) ≡ true → (a ≡ true) × (b ≡ true)
both_true true b e = (refl, e)
both_true false b e = absurd (false≢true e)

-- a test of all pairs is one of each pair
all_zip_at : (f : ℕ × ℕ → Bool) (xs ys : List ℕ) (k x y : ℕ) → list_all f (zip xs ys) ≡ true → slice_get xs k ≡ Some x → slice_get ys k ≡ Some y → f (x, y) ≡ true
all_zip_at f [] ys k x y e left right = cc
all_zip_at f (a ∷ xs) [] k x y e left right = cc
all_zip_at f (a ∷ xs) (b ∷ ys) zero x y e left right =
    subst (λ z. f (x, z) ≡ true) (same_Some b y right) (subst (λ z. f (z, b) ≡ true) (same_Some a x left) (both_true (f (a, b)) (list_all f (zip xs ys)) e).0)
all_zip_at f (a ∷ xs) (b ∷ ys) (suc k) x y e left right = all_zip_at f xs ys k x y (both_true (f (a, b)) (list_all f (zip xs ys)) e).1 left right

all_zip_from : (f : ℕ × ℕ → Bool) (xs ys : List ℕ) → ((k x y : ℕ) → slice_get xs k ≡ Some x → slice_get ys k ≡ Some y → f (x, y) ≡ true) → list_all f (zip xs ys) ≡ true
all_zip_from f [] ys each = refl
all_zip_from f (a ∷ xs) [] each = refl
all_zip_from f (a ∷ xs) (b ∷ ys) each = rw (each 0 a b refl refl) (all_zip_from f xs ys (λ k. each (suc k)))

module _ (rows : List Row) (g : List Node) (closed : AreClosed rows) (g_is : IsGraph g) (ground : IsGround g) where
  -- what is shown fixes how many kids there are
  pub counted : (h n : ℕ) → HasRow rows h → n < length g → shown_at_row rows h ≡ shown_at g n → length (kids_of_row rows h) ≡ length (kids_of g n)
  counted h n has n_in e =
      row_kids rows h closed has ∙ ap arity_at (label_from_stands (label_of_row rows h) (label_of g n) h n e) ∙ sym (node_in g n g_is n_in).kids

  alike_decides : (depth h n : ℕ) → HasRow rows h → n < length g → Decides (alike depth rows h g n) ((path : List ℕ) → length path < depth → tree_of rows h path ≡ at g n path)
  alike_decides zero h n has n_in = (λ e path lt. absurd (omega (arith, lt)), λ p. refl)
  alike_decides (suc depth) h n has n_in =
      let f : ℕ × ℕ → Bool = λ kids. alike depth rows kids.0 g kids.1 in (
        λ e path lt.
            let parts = both_true (same_label_at (label_of_row rows h) (label_of g n)) (list_all f (zip (kids_of_row rows h) (kids_of g n))) e in
            let label = (label_at_decides (label_of_row rows h) (label_of g n)).0 parts.0 in
            let shown : shown_at_row rows h ≡ shown_at g n = sym (stands_from_label (label_of g n) (label_of_row rows h) n h (sym label) (label_in g n ground n_in)) in
            along shown (λ x y k path lt left right.
            (alike_decides depth x y (kid_is_row rows h k x closed has left) (kid_in g n k y g_is n_in right)).0 (all_zip_at f (kids_of_row rows h) (kids_of g n) k x y parts.1 left right) path lt) path lt,
        λ agree.
            let shown : shown_at_row rows h ≡ shown_at g n = same_Some (shown_at_row rows h) (shown_at g n) (agree [] (omega arith)) in
            let label : label_of_row rows h ≡ label_of g n = label_from_stands (label_of_row rows h) (label_of g n) h n shown in
            rw ((label_at_decides (label_of_row rows h) (label_of g n)).1 label)
            (all_zip_from f (kids_of_row rows h) (kids_of g n) (λ k x y left right.
            (alike_decides depth x y (kid_is_row rows h k x closed has left) (kid_in g n k y g_is n_in right)).1 (λ path lt.
            let a : tree_of rows h (k ∷ path) ≡ tree_of rows x path = rw left refl in
            let b : at g n (k ∷ path) ≡ at g y path = rw right refl in
            sym a ∙ agree (k ∷ path) (omega (arith, lt)) ∙ b))),
      )
    where
      along : shown_at_row rows h ≡ shown_at g n → ((x y k : ℕ) (path : List ℕ) → length path < depth → slice_get (kids_of_row rows h) k ≡ Some x → slice_get (kids_of g n) k ≡ Some y → tree_of rows x path ≡ at g y path) →
          (path : List ℕ) → length path < suc depth → tree_of rows h path ≡ at g n path
      along shown kids [] lt = ap (λ s. Some s) shown
      along shown kids (k ∷ path) lt =
          at_both (kids_of_row rows) (shown_at_row rows) (kids_of g) (shown_at g) (λ x y. tree_of rows x path ≡ at g y path) path (λ x y e. e)
          (slice_get (kids_of_row rows h) k) (slice_get (kids_of g n) k)
          (both_from_length (λ x y. tree_of rows x path ≡ at g y path) (kids_of_row rows h) (kids_of g n) k (counted h n has n_in shown) (λ x y left right. kids x y k path (omega (arith, lt)) left right))

  -- the test at the product of the lengths says that the trees are the same
  same_decides : (h n : ℕ) → HasRow rows h → n < length g → Decides (alike (length rows * length g) rows h g n) (IsRowOf rows h g n)
  same_decides h n has n_in =
      let d = alike_decides (length rows * length g) h n has n_in in (
        λ e. same_from_short (kids_of_row rows) (HasRow rows) (place rows) (length rows) (rows_are_finite rows closed) (kids_of g) (λ n. n < length g) (λ n. n) (length g) (graph_is_finite g g_is) h has n n_in
            (shown_at_row rows) (shown_at g) (λ i j i_in j_in s. counted i j i_in j_in s) (d.0 e),
        λ tree. d.1 (λ path lt. tree path),
      )

pub option_map_some : {A B : Type 0} (f : A → B) (o : Option A) (y : B) → option_map f o ≡ Some y → (x : A) × (o ≡ Some x) × (f x ≡ y)
option_map_some f None y e = cc
option_map_some f (Some x) y e = (x, refl, same_Some (f x) y e)

pub find_means : FindMeans
find_means rows g n h closed apart g_is ground n_in =
    let test : Row → Bool = λ row. alike (length rows * length g) rows row.number g n in
    let has = λ (row : Row) (e : find test rows ≡ Some row).
    let is : HasRow rows row.number = find_again test (λ r. nat_eq r.number row.number) rows row e (eq-eqb row.number row.number refl) in is in
    let tree = λ (row : Row) (e : find test rows ≡ Some row).
    let is : IsRowOf rows row.number g n = (same_decides rows g closed g_is ground row.number n (has row e) n_in).0 (find_passes test rows row e) in is in (
      λ e.
          let found = option_map_some (λ (row : Row). row.number) (find test rows) h e in
          (subst (HasRow rows) found.2 (has found.0 found.1), subst (λ (x : ℕ). IsRowOf rows x g n) found.2 (tree found.0 found.1)),
      λ is.
          let row = some_of (row_at rows h) is.0 in
          let number : row.0.number ≡ h = number_at rows h row.0 row.1 in
          let passes : test row.0 ≡ true = (same_decides rows g closed g_is ground row.0.number n (subst (HasRow rows) (sym number) is.0) n_in).1 (subst (λ (x : ℕ). IsRowOf rows x g n) (sym number) is.1) in
          let found = some_of (find test rows) (find_again (λ r. nat_eq r.number h) test rows row.0 row.1 passes) in
          let same : found.0.number ≡ h = apart found.0.number h (has found.0 found.1) is.0 (λ path. tree found.0 found.1 path ∙ sym (is.1 path)) in
          ap (option_map (λ (row : Row). row.number)) found.1 ∙ ap (λ x. Some x) same,
    )
