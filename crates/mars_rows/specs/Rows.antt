-- Rows: numbered nodes, whose kids are named by their numbers.
use Rattle.std.specs.Prelude.{◌≡◌, ℕ, List, [], Option, unwrap_or, IsSome, find, nat_eq}
use Rattle.std.specs.Option.{option_map}
use Rattle.mars_tree.specs.declared.label.Label.{Label}
use Rattle.mars_tree.specs.Graph.{Node, Shown, stands, at}
use Rattle.mars_tree.specs.Walk.{walk}

-- a number, a label, and the numbers of the kids
pub record Row : Type 0 where
  pub number : ℕ
  pub label : Label
  pub kids : List ℕ

-- the row with the number
abbrev pub row_at : List Row → ℕ → Option Row
row_at rows h = find (λ row. nat_eq row.number h) rows

-- some row has the number
abbrev pub HasRow : List Row → ℕ → Type 0
HasRow rows h = IsSome (row_at rows h)

abbrev pub kids_of_row : List Row → ℕ → List ℕ
kids_of_row rows h = unwrap_or (option_map (λ row. row.kids) (row_at rows h)) []

abbrev pub label_of_row : List Row → ℕ → Option Label
label_of_row rows h = option_map (λ row. row.label) (row_at rows h)

abbrev pub shown_at_row : List Row → ℕ → Shown
shown_at_row rows h = stands (label_of_row rows h) h

-- the number at the end of a path from row `h`
abbrev pub row_end : List Row → ℕ → List ℕ → Option ℕ
row_end rows h path = walk (kids_of_row rows) h path

-- the tree of row `h`: what is at the end of each path
abbrev pub tree_of : List Row → ℕ → List ℕ → Option Shown
tree_of rows h path = option_map (shown_at_row rows) (row_end rows h path)

-- row `h` is the same tree as node `n`
abbrev pub IsRowOf : List Row → ℕ → List Node → ℕ → Type 0
IsRowOf rows h g n = (path : List ℕ) → tree_of rows h path ≡ at g n path

-- two rows, each of its own list, are the same tree
abbrev pub SameRow : List Row → ℕ → List Row → ℕ → Type 0
SameRow rows a others b = (path : List ℕ) → tree_of rows a path ≡ tree_of others b path
