-- Inside interning: the nodes of a tree that have no row.
use Rattle.std.specs.Prelude.{ℕ, List, is_none, filter, slice_index}
use Rattle.std.specs.List.{range_with_len}
use Rattle.mars_tree.specs.Graph.{Node}
use Rattle.mars_rows.specs.Finding.{find_row}
use Rattle.mars_rows.specs.Rows.{Row}

-- those of the nodes below `count` that have no row, in order
abbrev pub fresh_nodes : List Row → List Node → ℕ → List ℕ
fresh_nodes rows g count = filter (λ n. is_none (find_row rows g n)) (range_with_len 0 count)

-- the numbers in a vector
abbrev pub at_places : List ℕ → ℕ → ℕ
at_places numbers n = slice_index numbers n
