-- Inside: rows kept as the nodes of a graph, in the order of their numbers, with a number for each node.
use Rattle.std.specs.Prelude.{◌≡◌, ℕ, ◌<◌, List, length, map, slice_index_or, nat_eq, filter, All, Contains}
use Rattle.std.specs.List.{list_any, range_with_len}
use Rattle.mars_tree.specs.Graph.{Node, IsGraph, IsGround}
use Rattle.mars_tree.specs.Canonical.{IsReduced}
use Rattle.mars_reach.specs.Order.{IsReach}
use Rattle.mars_reach.specs.Part.{IsClosed}
use Rattle.mars_rows.specs.Rows.{Row}
use Rattle.mars_rows.specs.RowsInside.{rows_of}

-- the number of node `k`
abbrev pub number_of_node : List ℕ → ℕ → ℕ
number_of_node numbers k = slice_index_or numbers k 0

-- a row with its own number and those of its kids under other numbers
abbrev pub under : (ℕ → ℕ) → Row → Row
under f row = record { number = f row.number; label = row.label; kids = map f row.kids }

-- the nodes as rows under their numbers
abbrev pub stock_rows : List Node → List ℕ → List Row
stock_rows g numbers = map (under (number_of_node numbers)) (rows_of g)

-- each number is less than those after it
abbrev pub NumbersRise : List ℕ → Type 0
NumbersRise numbers = (i j : ℕ) → i < j → j < length numbers → number_of_node numbers i < number_of_node numbers j

-- distinct trees without free leaves, each under a number, and numbers rise
pub record IsStock (g : List Node) (numbers : List ℕ) : Type 0 where
  pub graph : IsGraph g
  pub labels : IsGround g
  pub apart : IsReduced g
  pub size : length numbers ≡ length g
  pub rising : NumbersRise numbers

-- those nodes that were met, in the order of their places
abbrev pub in_order : List Node → List ℕ → List ℕ
in_order g met = filter (λ n. list_any (nat_eq n) met) (range_with_len 0 (length g))

-- the order has the nodes that the roots reach
pub record AreKept (g : List Node) (roots order : List ℕ) : Type 0 where
  pub met : List ℕ
  pub reach : IsReach g roots met
  pub roots_in : All (Contains met) roots
  pub closed : IsClosed g met
  pub is : order ≡ in_order g met
