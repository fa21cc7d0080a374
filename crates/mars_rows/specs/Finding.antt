-- The row of a tree, found by comparing rows with a node along short paths.
use Rattle.std.specs.Prelude.{ℕ, zero, suc, ◌*◌, Bool, true, ◌&&◌, List, length, Option, find}
use Rattle.std.specs.Option.{option_map}
use Rattle.std.specs.List.{zip, list_all}
use Rattle.mars_tree.specs.Equality.{same_label_at}
use Rattle.mars_tree.specs.Graph.{Node, label_of, kids_of}
use Rattle.mars_rows.specs.Rows.{Row, label_of_row, kids_of_row}

-- whether row `h` and node `n` show the same along the paths of fewer than `depth` kids
abbrev pub alike : ℕ → List Row → ℕ → List Node → ℕ → Bool
alike zero rows h g n = true
alike (suc depth) rows h g n =
    same_label_at (label_of_row rows h) (label_of g n) && list_all (λ kids. alike depth rows kids.0 g kids.1) (zip (kids_of_row rows h) (kids_of g n))

-- the number of the row that is the same tree as node `n`
abbrev pub find_row : List Row → List Node → ℕ → Option ℕ
find_row rows g n = option_map (λ row. row.number) (find (λ row. alike (length rows * length g) rows row.number g n) rows)
