-- Laws of tables in which a sweep takes no row: a walk along kids from a pin meets each row.
use Rattle.std.specs.Prelude.{◌≡◌, ℕ, List}
use Rattle.mars_tree.specs.Graph.{Node}
use Rattle.mars_rows.specs.Rows.{HasRow}
use Rattle.mars_rows.specs.Object.{TableObject, intern, sweep}
use Rattle.mars_rows.specs.Object.Interned.{kept}
use Rattle.mars_rows.specs.Sound.{IsSound, IsMet}
use Rattle.mars_rows.specs.TreeGraph.{IsTreeGraph}

-- a walk from a pin meets each row
abbrev pub AreAllMet : TableObject → Type 0
AreAllMet t = (h : ℕ) → HasRow t.rows h → IsMet t h

-- what is interned is met from the pin that it is given
abbrev pub InternKeepsMet : Type 0
InternKeepsMet = (t new : TableObject) (who h : ℕ) (g : List Node) → IsSound t → AreAllMet t → IsTreeGraph g → intern t who g ≡ kept h new → AreAllMet new

-- a sweep leaves such a table as it is
abbrev pub SweepKeepsMet : Type 0
SweepKeepsMet = (t : TableObject) → IsSound t → AreAllMet t → sweep t ≡ t
