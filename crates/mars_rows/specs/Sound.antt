-- Sound tables: each number names one tree, and no tree has two numbers.
use Rattle.std.specs.Prelude.{◌≡◌, ℕ, ◌<◌, ◌≤◌, nat_eq, List, length, map, Some, All, Contains}
use Rattle.std.specs.List.{IsDistinct}
use Rattle.mars_tree.specs.Label.{arity_of}
use Rattle.mars_rows.specs.Rows.{Row, HasRow, SameRow, row_end}
use Rattle.mars_rows.specs.Object.{TableObject}

-- each row has a kid for each place of its label, and the kids are rows
pub record AreClosed (rows : List Row) : Type 0 where
  pub count : All (λ row. length row.kids ≡ arity_of row.label) rows
  pub kids : All (λ row. All (HasRow rows) row.kids) rows

-- no two numbers have the same tree
abbrev pub IsApart : List Row → Type 0
IsApart rows = (a b : ℕ) → HasRow rows a → HasRow rows b → SameRow rows a rows b → a ≡ b

-- numbers are given once and name one tree each; kids and pins name rows; the limit is kept
pub record IsSound (t : TableObject) : Type 0 where
  pub numbers : IsDistinct nat_eq (map (λ row. row.number) t.rows)
  pub below : All (λ row. row.number < t.next) t.rows
  pub closed : AreClosed t.rows
  pub pins : All (λ pin. HasRow t.rows pin.1) t.pins
  pub limit : length t.rows ≤ t.limit
  pub apart : IsApart t.rows

-- a walk along kids from a pin meets the row
pub record IsMet (t : TableObject) (number : ℕ) : Type 0 where
  pub pin : ℕ × ℕ
  pub pinned : Contains t.pins pin
  pub path : List ℕ
  pub meets : row_end t.rows pin.1 path ≡ Some number
