-- Rows with the fresh nodes of a tree after them.
use Rattle.std.proofs.Common.{◌≡◌, ◌≢◌, false, cond, nat_lt, ℕ, ◌<◌, ◌≤◌, ◌+◌, List, [], ◌∷◌, ◌++◌, length, map, Some, None, slice_get, sym, subst, ap, ◌∙◌, arith, All, length-append}
use Rattle.std.specs.List.{range_with_len}
use Rattle.std.proofs.lemmas.List.{length-map}
use Rattle.std.proofs.lemmas.List.Elements.{All-append, All-map, All-weaker}
use Rattle.mars_tree.specs.Graph.{Node, IsNode, IsGraph, IsGround, label_of, kids_of}
use Rattle.mars_tree.proofs.CallerLemmas.{node_in, kid_in, label_in}
use Rattle.mars_rows.specs.FreshInside.{fresh_nodes, at_places}
use Rattle.std.proofs.lemmas.Bool.Decides.{nat_tests}
use Rattle.mars_rows.specs.Object.{Interned, kept, full, intern, fresh_before, row_number, fresh_rows}
use Rattle.mars_tree.specs.Renumbered.{renumbered_node, renumbered, HaveKids, KidsFit}
use Rattle.mars_rows.specs.Rows.{Row}
use Rattle.mars_tree.specs.Canonical.{IsReduced}
use Rattle.mars_rows.specs.RowsInside.{rows_from, rows_of}
use Rattle.mars_rows.specs.TreeGraph.{IsTreeGraph}
use Rattle.mars_rows.proofs.FoundNodes.{found_is}
use Rattle.mars_rows.proofs.FreshRows.{at_map, fresh_in_range, number_below, length-fresh, length-range, rows_fresh}
use Rattle.mars_rows.proofs.Grown.{rows_from-append}
use Rattle.mars_rows.proofs.TreeFacts.{tree_some}
use Rattle.mars_base.proofs.ListFacts.{map-same, All-from_gets, All-get}

-- the rows have grown by the fresh rows of the tree
pub record HasGrown (g tree grown : List Node) : Type 0 where
  pub rows : rows_of grown ≡ rows_of g ++ fresh_rows (rows_of g) (length g) tree
  pub count : length grown ≡ length g + fresh_before (rows_of g) tree (length tree)
  pub graph : IsGraph grown
  pub labels : IsGround grown

module _ (g tree : List Node) (numbers fresh : List ℕ) (g_is : IsGraph g) (ground : IsGround g) (apart : IsReduced g) (is_tree : IsTreeGraph tree)
    (numbers_are : numbers ≡ map (row_number (rows_of g) (length g) tree) (range_with_len 0 (length tree))) (fresh_are : fresh ≡ fresh_nodes (rows_of g) tree (length tree)) where
  pub fresh_below : All (λ n. n < length tree) fresh
  fresh_below = subst (λ (xs : List ℕ). All (λ n. n < length tree) xs) (sym fresh_are) (fresh_in_range (rows_of g) tree (length tree))

  in_tree : (k n : ℕ) → slice_get fresh k ≡ Some n → n < length tree
  in_tree k n e = All-get (λ n. n < length tree) fresh k n fresh_below e

  fresh_has_labels : All (λ n. label_of tree n ≢ None) fresh
  fresh_has_labels = All-from_gets (λ n. label_of tree n ≢ None) fresh (λ k n e. label_in tree n is_tree.labels (in_tree k n e))

  pub numbers_size : length numbers ≡ length tree
  numbers_size = ap length numbers_are ∙ length-map (range_with_len 0 (length tree)) (row_number (rows_of g) (length g) tree) ∙ length-range (length tree)

  pub number_at : (n : ℕ) → n < length tree → at_places numbers n ≡ row_number (rows_of g) (length g) tree n
  number_at n lt = ap (λ xs. at_places xs n) numbers_are ∙ at_map (row_number (rows_of g) (length g) tree) (length tree) n lt

  pub fresh_count : length fresh ≡ fresh_before (rows_of g) tree (length tree)
  fresh_count = ap length fresh_are ∙ length-fresh (rows_of g) (length g) tree (length tree)

  number_fits : (n : ℕ) → n < length tree → at_places numbers n < length g + length fresh
  number_fits n lt =
      let below : row_number (rows_of g) (length g) tree n < length g + fresh_before (rows_of g) tree (length tree) =
      number_below (rows_of g) (length g) tree n (length tree) lt (λ h e. (found_is g tree g_is ground apart is_tree.graph is_tree.labels n lt h e).0) in
      omega (arith, below, number_at n lt, fresh_count)

  pub fresh_have_kids : HaveKids (λ n. n < length numbers) tree fresh
  fresh_have_kids = All-from_gets (λ n. All (λ kid. kid < length numbers) (kids_of tree n)) fresh (λ k n e.
      All-from_gets (λ kid. kid < length numbers) (kids_of tree n) (λ j kid f. let lt : kid < length tree = kid_in tree n j kid is_tree.graph (in_tree k n e) f in omega (arith, lt, numbers_size)))

  pub fresh_kids_fit : KidsFit tree (at_places numbers) (length g + length fresh) fresh
  fresh_kids_fit = All-from_gets (λ n. All (λ kid. at_places numbers kid < length g + length fresh) (kids_of tree n)) fresh (λ k n e.
      All-from_gets (λ kid. at_places numbers kid < length g + length fresh) (kids_of tree n) (λ j kid f. number_fits kid (kid_in tree n j kid is_tree.graph (in_tree k n e) f)))

  pub root_number : at_places numbers 0 ≡ row_number (rows_of g) (length g) tree 0
  root_number = number_at 0 (tree_some tree is_tree)

  more : List Node
  more = renumbered tree (at_places numbers) fresh

  more_is : more ≡ renumbered tree (row_number (rows_of g) (length g) tree) (fresh_nodes (rows_of g) tree (length tree))
  unfolding more
  more_is =
      map-same (renumbered_node tree (at_places numbers)) (renumbered_node tree (row_number (rows_of g) (length g) tree)) fresh (λ k n e.
      ap (λ ks. record { label = label_of tree n; kids = ks }) (map-same (at_places numbers) (row_number (rows_of g) (length g) tree) (kids_of tree n) (λ j kid f. number_at kid (kid_in tree n j kid is_tree.graph (in_tree k n e) f))))
      ∙ ap (renumbered tree (row_number (rows_of g) (length g) tree)) fresh_are

  more_length : length more ≡ length fresh
  unfolding more
  more_length = length-map fresh (renumbered_node tree (at_places numbers))

  pub has_grown : (grown : List Node) → grown ≡ g ++ renumbered tree (at_places numbers) fresh → HasGrown g tree grown
  unfolding more
  has_grown grown e =
      let start : length g ≡ length g + 0 = omega arith in
      let from_zero : length g ≡ 0 + length g = omega arith in
      let count : length g + length fresh ≡ length (g ++ more) = omega (arith, length-append g more, more_length) in
      let nodes : All (IsNode (length g + length fresh)) (g ++ more) =
      All-append (IsNode (length g + length fresh)) g more
      (All-weaker (IsNode (length g)) (IsNode (length g + length fresh)) (λ node is. record { kids = is.kids; in_range = All-weaker (λ kid. kid < length g) (λ kid. kid < length g + length fresh) (λ kid lt. omega (arith, lt)) node.kids is.in_range }) g g_is)
      (All-map (IsNode (length g + length fresh)) (renumbered_node tree (at_places numbers)) fresh (All-from_gets (λ n. IsNode (length g + length fresh) (renumbered_node tree (at_places numbers) n)) fresh (λ k n f. record {
        kids = length-map (kids_of tree n) (at_places numbers) ∙ (node_in tree n is_tree.graph (in_tree k n f)).kids;
        in_range = All-map (λ kid. kid < length g + length fresh) (at_places numbers) (kids_of tree n)
            (All-from_gets (λ kid. at_places numbers kid < length g + length fresh) (kids_of tree n) (λ j kid h. number_fits kid (kid_in tree n j kid is_tree.graph (in_tree k n f) h)));
      }))) in
      record {
        rows = ap rows_of e ∙ rows_from-append 0 (length g) g more from_zero ∙ ap (λ (h : List Node). rows_of g ++ rows_from (length g) h) more_is
            ∙ ap (λ ys. rows_of g ++ ys) (rows_fresh (rows_of g) (length g) tree 0 (length tree) (length g) start);
        count = omega (arith, ap length e, length-append g more, more_length, fresh_count);
        graph = subst IsGraph (sym e) (subst (λ (n : ℕ). All (IsNode n) (g ++ more)) count nodes);
        labels = subst (λ (h : List Node). All (λ node. node.label ≢ None) h) (sym e)
            (All-append (λ node. node.label ≢ None) g more ground (All-map (λ node. node.label ≢ None) (renumbered_node tree (at_places numbers)) fresh fresh_has_labels));
      }

-- what interning gives where the limit allows it
pub interns_kept : (g tree grown : List Node) (pins new_pins : List (ℕ × ℕ)) (cap who row : ℕ) → HasGrown g tree grown → length (rows_of g) + fresh_before (rows_of g) tree (length tree) ≤ cap →
    row ≡ row_number (rows_of g) (length g) tree 0 → new_pins ≡ pins ++ (who, row) ∷ [] →
    intern (record { rows = rows_of g; pins = pins; next = length g; limit = cap }) who tree ≡ kept row (record { rows = rows_of grown; pins = new_pins; next = length grown; limit = cap })
interns_kept g tree grown pins new_pins cap who row has fits root pinned =
    let rows : List Row = rows_of g in
    let fresh : ℕ = fresh_before rows tree (length tree) in
    let number : ℕ = row_number rows (length g) tree 0 in
    let not_full : nat_lt cap (length rows + fresh) ≡ false = grind (arith, nat_tests) in
    let as_kept : ℕ → List Row → List (ℕ × ℕ) → ℕ → Interned = λ h rs ps next. kept h (record { rows = rs; pins = ps; next = next; limit = cap }) in
    ap (λ b. cond b (full (length rows) fresh cap) (as_kept number (rows ++ fresh_rows rows (length g) tree) (pins ++ (who, number) ∷ []) (length g + fresh))) not_full
    ∙ ap (λ h. as_kept h (rows ++ fresh_rows rows (length g) tree) (pins ++ (who, h) ∷ []) (length g + fresh)) (sym root)
    ∙ ap (λ rs. as_kept row rs (pins ++ (who, row) ∷ []) (length g + fresh)) (sym has.rows)
    ∙ ap (λ ps. as_kept row (rows_of grown) ps (length g + fresh)) (sym pinned)
    ∙ ap (λ next. as_kept row (rows_of grown) new_pins next) (sym has.count)
