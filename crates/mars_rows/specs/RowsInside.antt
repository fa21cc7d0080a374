-- Inside: the nodes of a graph as rows.
use Rattle.std.specs.Prelude.{ℕ, ◌+◌, List, [], ◌∷◌, Option}
use Rattle.std.specs.Option.{option_map}
use Rattle.std.specs.List.{cons_option}
use Rattle.mars_tree.specs.Graph.{Node}
use Rattle.mars_rows.specs.Rows.{Row}

-- a node as the row of a number
abbrev pub as_row : ℕ → Node → Option Row
as_row number node = option_map (λ l. record { number = number; label = l; kids = node.kids }) node.label

-- the nodes as rows that are numbered from `number` on
abbrev pub rows_from : ℕ → List Node → List Row
rows_from number [] = []
rows_from number (node ∷ g) = cons_option (as_row number node) (rows_from (number + 1) g)

-- node `n` as row `n`
abbrev pub rows_of : List Node → List Row
rows_of g = rows_from 0 g
