-- Rows with pins: the table object, the room for pins, and what adding a tree answers.
use Rattle.std.specs.Prelude.{◌≡◌, ⊤, ℕ, ◌+◌, Bool, not, nat_eq, nat_lt, ◌&&◌, if◌then◌else◌, List, [], ◌∷◌, ◌++◌, length}
use Rattle.mars_tree.specs.Graph.{Node}
use Rattle.mars_rows.specs.Rows.{HasRow}
use Rattle.mars_rows.specs.Object.{TableObject, fresh_before, fresh_rows, row_number, sweep}
use Rattle.mars_rows.specs.declared.store.Added.{Added}
use Rattle.mars_rows.specs.declared.store.Added.TheVariants.{Root, Full}

-- the table object, and how many pins fit without more memory
pub record RowsObject : Type 0 where
  pub table : TableObject
  pub room : ℕ

-- whether the rows and the nodes that have none together keep the limit
abbrev pub fits : TableObject → List Node → Bool
fits t g = not (nat_lt t.limit (length t.rows + fresh_before t.rows g (length g)))

-- the table that a tree goes into: where it doesn't fit, what a sweep leaves
abbrev pub table_for : TableObject → List Node → TableObject
table_for t g = if fits t g then t else sweep t

-- the table with the rows that a tree needs after its own
abbrev pub with_tree : TableObject → List Node → TableObject
with_tree t g = record { rows = t.rows ++ fresh_rows t.rows t.next g; pins = t.pins; next = t.next + fresh_before t.rows g (length g); limit = t.limit }

-- what adding a tree answers: the number of its root with the table after it, or how many rows and fresh nodes are too many
pub data Adding : Type 0 where
  root : ℕ → TableObject → Adding
  too_many : ℕ → ℕ → Adding

-- the tree of node 0 of a canonical graph is added to what it fits into
abbrev pub add_to : TableObject → List Node → Adding
add_to u g = if fits u g then root (row_number u.rows u.next g 0) (with_tree u g) else too_many (length u.rows) (fresh_before u.rows g (length g))

-- a tree that doesn't fit is added to what a sweep leaves
abbrev pub add : TableObject → List Node → Adding
add t g = add_to (table_for t g) g

-- the code's answer is that of the table object; where it is full, nothing changes
abbrev pub AddsTree : Added → TableObject → List Node → TableObject → Type 0
AddsTree (Root h) t g new = add t g ≡ root h new
AddsTree (Full r f) t g new = (add t g ≡ too_many r f) × (new ≡ t)

-- the root that an answer gives has a row
abbrev pub HasRoot : Added → TableObject → Type 0
HasRoot (Root h) t = HasRow t.rows h
HasRoot (Full r f) t = ⊤

-- the table with one more pin
abbrev pub with_pin : TableObject → ℕ → ℕ → TableObject
with_pin t who h = record { rows = t.rows; pins = t.pins ++ (who, h) ∷ []; next = t.next; limit = t.limit }

-- the pins without the first that is the caller's on the number
abbrev pub without_first : ℕ → ℕ → List (ℕ × ℕ) → List (ℕ × ℕ)
without_first who h [] = []
without_first who h (pin ∷ pins) = if nat_eq pin.0 who && nat_eq pin.1 h then pins else pin ∷ without_first who h pins

-- the table with one pin less
abbrev pub without_pin : TableObject → ℕ → ℕ → TableObject
without_pin t who h = record { rows = t.rows; pins = without_first who h t.pins; next = t.next; limit = t.limit }
