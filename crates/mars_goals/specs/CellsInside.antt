-- Inside: cells in both of their forms, and the goal lists of cells.
use Rattle.std.specs.Prelude.{◌≡◌, ℕ, ◌≤◌, ◌-◌, ◌^◌, List, [], ◌∷◌, ◌++◌, slice_get, Some, map}
use Rattle.mars_goals.specs.declared.cells.Pending.{Pending}
use Rattle.mars_goals.specs.declared.cells.Cell.{Cell}
use Rattle.mars_goals.specs.declared.cells.Pending.TheVariants as goal
use Rattle.mars_goals.specs.declared.cells.NarrowCell.{NarrowCell}
use Rattle.mars_goals.specs.declared.cells.NarrowCell.TheVariants as narrow
use Rattle.mars_goals.specs.declared.cells.Form.{Form}
use Rattle.mars_goals.specs.declared.cells.Form.TheVariants.{Narrow, Wide}
use Rattle.mars_goals.specs.GoalLists.{list_at}

-- the cell that is kept in 16 bytes
abbrev pub cell_of : NarrowCell → Cell
cell_of (narrow.Call rest node) = record { goal = goal.Call node; rest = rest }
cell_of (narrow.Cut rest depth) = record { goal = goal.Cut depth; rest = rest }

-- cells, and the most that the number of a list may be where it is written into one
pub record CellList : Type 0 where
  pub items : List Cell
  pub most : ℕ

-- the cells of a form
abbrev pub cell_list : Form → CellList
cell_list (Narrow all) = record { items = map cell_of all.items; most = 2 ^ 32 - 1 }
cell_list (Wide all) = record { items = all.items; most = 2 ^ 64 - 1 }

-- the lists of cells, after those that there were before
abbrev pub lists_of_cells : List (List Pending) → List Cell → List (List Pending)
lists_of_cells before [] = before
lists_of_cells before (cell ∷ cells) = lists_of_cells (before ++ (cell.goal ∷ list_at before cell.rest) ∷ []) cells

-- each cell's rest is the empty list or an earlier cell's: the cell at a place is that of the next number
abbrev pub AreCells : List Cell → Type 0
AreCells cells = (place : ℕ) (cell : Cell) → slice_get cells place ≡ Some cell → cell.rest ≤ place
