-- What the table object's calls mean, and that they keep it sound.
use Rattle.std.specs.Prelude.{◌≡◌, ◌↔◌, ℕ, ◌<◌, List, ◌++◌, length, Some, All}
use Rattle.mars_tree.specs.Graph.{Node, IsGraph, IsGround, Same}
use Rattle.mars_rows.specs.Rows.{Row, row_at, HasRow, IsRowOf, SameRow}
use Rattle.mars_rows.specs.Finding.{find_row}
use Rattle.mars_rows.specs.Object.{TableObject, fresh_rows, row_number, sweep}
use Rattle.mars_rows.specs.Sound.{AreClosed, IsApart, IsMet}

-- a row is found exactly where it is the same tree
abbrev pub FindMeans : Type 0
FindMeans = (rows : List Row) (g : List Node) (n h : ℕ) → AreClosed rows → IsApart rows → IsGraph g → IsGround g → n < length g →
    (find_row rows g n ≡ Some h) ↔ (HasRow rows h × IsRowOf rows h g n)

-- what the fresh rows of a graph add: rows stay closed and apart, old trees stay, and each node is the tree of its number
pub record InternsTrees (rows : List Row) (next : ℕ) (g : List Node) : Type 0 where
  pub closed : AreClosed (rows ++ fresh_rows rows next g)
  pub apart : IsApart (rows ++ fresh_rows rows next g)
  pub kept : (h : ℕ) → HasRow rows h → SameRow (rows ++ fresh_rows rows next g) h rows h
  pub trees : (n : ℕ) → n < length g → HasRow (rows ++ fresh_rows rows next g) (row_number rows next g n) × IsRowOf (rows ++ fresh_rows rows next g) (row_number rows next g n) g n

-- interning a graph of distinct trees adds what it says
abbrev pub InternMeans : Type 0
InternMeans = (rows : List Row) (next : ℕ) (g : List Node) → AreClosed rows → IsApart rows → All (λ row. row.number < next) rows →
    IsGraph g → IsGround g → ((i j : ℕ) → i < length g → j < length g → Same g i g j → i ≡ j) → InternsTrees rows next g

-- a sweep keeps exactly the rows that a walk along kids from a pin meets, and keeps them as they are
abbrev pub SweepMeans : Type 0
SweepMeans = (t : TableObject) → AreClosed t.rows → All (λ pin. HasRow t.rows pin.1) t.pins →
    ((h : ℕ) → HasRow (sweep t).rows h ↔ IsMet t h) × ((h : ℕ) → HasRow (sweep t).rows h → row_at (sweep t).rows h ≡ row_at t.rows h)
