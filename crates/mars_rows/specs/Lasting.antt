-- Laws of a table that grows: a number keeps its tree.
use Rattle.std.specs.Prelude.{◌≡◌, ℕ, List}
use Rattle.mars_tree.specs.Graph.{Node}
use Rattle.mars_rows.specs.Rows.{HasRow, IsRowOf, SameRow}
use Rattle.mars_rows.specs.Object.{TableObject, intern}
use Rattle.mars_rows.specs.Object.Interned.{kept}
use Rattle.mars_rows.specs.Sound.{IsSound}
use Rattle.mars_rows.specs.TreeGraph.{IsTreeGraph}

-- each row is there later, and is the same tree
abbrev pub KeepsTrees : TableObject → TableObject → Type 0
KeepsTrees old new = (h : ℕ) → HasRow old.rows h → HasRow new.rows h × SameRow new.rows h old.rows h

-- interning keeps the trees that are there, and its number is that of the tree
abbrev pub InternKeepsTrees : Type 0
InternKeepsTrees = (t new : TableObject) (who h : ℕ) (g : List Node) → IsSound t → IsTreeGraph g → intern t who g ≡ kept h new →
    KeepsTrees t new × HasRow new.rows h × IsRowOf new.rows h g 0
