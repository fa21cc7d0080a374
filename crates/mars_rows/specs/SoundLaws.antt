-- Each call keeps a table sound, and numbers of a sound table agree exactly where trees do.
use Rattle.std.specs.Prelude.{◌≡◌, ◌↔◌, ℕ, List}
use Rattle.mars_tree.specs.Graph.{Node, Same}
use Rattle.mars_rows.specs.Rows.{HasRow, IsRowOf}
use Rattle.mars_rows.specs.Object.{TableObject, Interned, intern, sweep}
use Rattle.mars_rows.specs.Object.Interned.{kept, full}
use Rattle.mars_rows.specs.Sound.{IsSound}
use Rattle.mars_rows.specs.TreeGraph.{IsTreeGraph, InternsTo}
use Rattle.mars_rows.specs.Lasting.{KeepsTrees}

-- the table after an answer: at `full` it is the old one
abbrev pub table_after : TableObject → Interned → TableObject
table_after old (kept root new) = new
table_after old (full rows fresh cap) = old

-- interning a tree keeps the table sound
abbrev pub InternKeepsSound : Type 0
InternKeepsSound = (t : TableObject) (who : ℕ) (g : List Node) → IsSound t → IsTreeGraph g → IsSound (table_after t (intern t who g))

-- so does a sweep
abbrev pub SweepKeepsSound : Type 0
SweepKeepsSound = (t : TableObject) → IsSound t → IsSound (sweep t)

-- what was interned for a node: the table is sound again, old trees last, and the number is that of the node's tree
pub record Lasts (old : TableObject) (g : List Node) (root h : ℕ) (new : TableObject) : Type 0 where
  pub sound : IsSound new
  pub trees : KeepsTrees old new
  pub has : HasRow new.rows h
  pub tree : IsRowOf new.rows h g root

abbrev pub InternsToLasts : Type 0
InternsToLasts = (old new : TableObject) (who : ℕ) (g : List Node) (root h : ℕ) → IsSound old → InternsTo old who g root h new → Lasts old g root h new

-- two numbers are one exactly where their trees are
abbrev pub NumbersAgree : Type 0
NumbersAgree = (t : TableObject) (g h : List Node) (n m a b : ℕ) → IsSound t → HasRow t.rows a → HasRow t.rows b → IsRowOf t.rows a g n → IsRowOf t.rows b h m →
    (a ≡ b) ↔ Same g n h m

-- the answer is fixed by the tree, whatever graph gives it
abbrev pub OneInterning : Type 0
OneInterning = (old new other : TableObject) (who : ℕ) (g h : List Node) (n m a b : ℕ) → InternsTo old who g n a new → InternsTo old who h m b other → Same g n h m →
    (a ≡ b) × (new ≡ other)
