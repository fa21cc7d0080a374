-- A graph of rows that has grown by the fresh nodes of a tree.
use Rattle.std.proofs.Common.{◌≡◌, ℕ, zero, suc, ◌<◌, ◌≤◌, ◌+◌, Bool, true, false, cond, is_none, List, [], ◌∷◌, ◌++◌, length, Option, Some, None, refl, sym, subst, ap, ◌∙◌, arith}
use Rattle.std.specs.List.{cons_option}
use Rattle.mars_rows.specs.Finding.{find_row}
use Rattle.mars_tree.specs.Graph.{Node, IsGraph, IsGround}
use Rattle.mars_rows.specs.Rows.{Row, HasRow, SameRow}
use Rattle.mars_rows.specs.Object.{row_number, fresh_before, fresh_rows}
use Rattle.mars_tree.specs.Canonical.{IsReduced}
use Rattle.mars_rows.specs.RowsInside.{as_row, rows_from, rows_of}
use Rattle.mars_rows.specs.TableLaws.{InternsTrees}
use Rattle.mars_rows.specs.TreeGraph.{IsTreeGraph}
use Rattle.mars_rows.proofs.Interning.{intern_means}
use Rattle.mars_rows.proofs.Stored.{closed_stored, apart_stored, below_stored, has_stored, stored_in, tree_stored}

cons_option-append : (o : Option Row) (xs ys : List Row) → cons_option o (xs ++ ys) ≡ cons_option o xs ++ ys
cons_option-append None xs ys = refl
cons_option-append (Some x) xs ys = refl

-- further nodes are further rows
pub rows_from-append : (b c : ℕ) (g h : List Node) → c ≡ b + length g → rows_from b (g ++ h) ≡ rows_from b g ++ rows_from c h
rows_from-append b c [] h e = ap (λ n. rows_from n h) (omega arith)
rows_from-append b c (node ∷ g) h e =
    ap (cons_option (as_row b node)) (rows_from-append (b + 1) c g h (omega arith)) ∙ cons_option-append (as_row b node) (rows_from (b + 1) g) (rows_from c h)

module _ (g tree grown : List Node) (g_is : IsGraph g) (ground : IsGround g) (apart : IsReduced g) (is_tree : IsTreeGraph tree)
    (grown_is : IsGraph grown) (grown_ground : IsGround grown) (e : rows_of grown ≡ rows_of g ++ fresh_rows (rows_of g) (length g) tree) where
  interned : InternsTrees (rows_of g) (length g) tree
  interned =
      intern_means (rows_of g) (length g) tree (closed_stored g g_is ground) (apart_stored g g_is ground apart) (below_stored g ground)
      is_tree.graph is_tree.labels is_tree.canonical.distinct

  -- no two nodes are the same tree
  pub grown_apart : IsReduced grown
  grown_apart i j i_in j_in same =
      interned.apart i j (subst (λ (rows : List Row). HasRow rows i) e (has_stored grown grown_is grown_ground i i_in)) (subst (λ (rows : List Row). HasRow rows j) e (has_stored grown grown_is grown_ground j j_in))
      (subst (λ (rows : List Row). SameRow rows i rows j) e (λ path. tree_stored grown grown_is grown_ground i i_in path ∙ same path ∙ sym (tree_stored grown grown_is grown_ground j j_in path)))

  -- each node of the tree has the number of a node
  pub number_in : (n : ℕ) → n < length tree → row_number (rows_of g) (length g) tree n < length grown
  number_in n n_in =
      let h : ℕ = row_number (rows_of g) (length g) tree n in
      stored_in grown grown_is grown_ground h (subst (λ (rows : List Row). HasRow rows h) (sym e) (interned.trees n n_in).0)

-- not more nodes are fresh than there are
pub fresh_within : (rows : List Row) (tree : List Node) (n : ℕ) → fresh_before rows tree n ≤ n
fresh_within rows tree zero = omega arith
fresh_within rows tree (suc n) = either (is_none (find_row rows tree n)) (fresh_within rows tree n)
  where
    either : (b : Bool) → fresh_before rows tree n ≤ n → fresh_before rows tree n + cond b 1 0 ≤ suc n
    either true le = omega (arith, le)
    either false le = omega (arith, le)
