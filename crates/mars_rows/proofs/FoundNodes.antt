-- Finding a row by comparing nodes.
use Rattle.std.proofs.Common.{◌≡◌, ℕ, ◌<◌, List, [], length, Some, None, sym, ◌∙◌, inl, inr}
use Rattle.mars_tree.specs.Graph.{Node, IsGraph, IsGround, label_of, shown_at, Same}
use Rattle.mars_tree.proofs.CallerLemmas.{label_from_stands}
use Rattle.std.proofs.lemmas.Option.{same_Some}
use Rattle.mars_rows.specs.Finding.{find_row}
use Rattle.mars_rows.specs.Rows.{HasRow, IsRowOf}
use Rattle.mars_tree.specs.Canonical.{IsReduced}
use Rattle.mars_rows.specs.RowsInside.{rows_of}
use Rattle.mars_rows.proofs.Found.{find_means}
use Rattle.mars_rows.proofs.Interning.{none_or_some}
use Rattle.mars_rows.proofs.Stored.{closed_stored, apart_stored, tree_stored, has_stored, stored_in}

-- nodes that are the same tree have one label
pub same_labels : (g h : List Node) (n m : ℕ) → Same g n h m → label_of g n ≡ label_of h m
same_labels g h n m same = label_from_stands (label_of g n) (label_of h m) n m (same_Some (shown_at g n) (shown_at h m) (same []))

module _ (rows tree : List Node) (rows_are : IsGraph rows) (labels : IsGround rows) (apart : IsReduced rows) (tree_is : IsGraph tree) (tree_labels : IsGround tree) (n : ℕ) (n_in : n < length tree) where
  means : (h : ℕ) → (find_row (rows_of rows) tree n ≡ Some h → HasRow (rows_of rows) h × IsRowOf (rows_of rows) h tree n) × (HasRow (rows_of rows) h × IsRowOf (rows_of rows) h tree n → find_row (rows_of rows) tree n ≡ Some h)
  means h = find_means (rows_of rows) tree n h (closed_stored rows rows_are labels) (apart_stored rows rows_are labels apart) tree_is tree_labels n_in

  pub found_here : (k : ℕ) → k < length rows → Same rows k tree n → Some k ≡ find_row (rows_of rows) tree n
  found_here k lt same = sym ((means k).1 (has_stored rows rows_are labels k lt, λ path. tree_stored rows rows_are labels k lt path ∙ same path))

  pub found_is : (h : ℕ) → find_row (rows_of rows) tree n ≡ Some h → (h < length rows) × Same rows h tree n
  found_is h e =
      let is = (means h).0 e in
      let lt : h < length rows = stored_in rows rows_are labels h is.0 in
      (lt, λ path. sym (tree_stored rows rows_are labels h lt path) ∙ is.1 path)

  pub found_nowhere : ((k : ℕ) → k < length rows → Same rows k tree n → ⊥) → None ≡ find_row (rows_of rows) tree n
  found_nowhere none = elim (none_or_some (find_row (rows_of rows) tree n)) [
    | inl e ↦ sym e
    | inr some ↦ let is = found_is some.0 some.1 in absurd (none some.0 is.0 is.1)
  ]
