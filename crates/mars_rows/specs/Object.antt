-- The table object: rows, pins, the next number and the limit, and what its calls make of them.
use Rattle.std.specs.Prelude.{ℕ, zero, suc, ◌+◌, ◌-◌, Bool, nat_eq, nat_lt, if◌then◌else◌, List, [], ◌∷◌, ◌++◌, length, map, Option, None, unwrap_or, is_none, filter}
use Rattle.std.specs.Option.{option_map}
use Rattle.std.specs.List.{flat_map, filter_map, list_any, range_with_len}
use Rattle.mars_tree.specs.Graph.{Node, label_of, kids_of}
use Rattle.mars_rows.specs.Rows.{Row, kids_of_row}
use Rattle.mars_rows.specs.Finding.{find_row}

-- a pin is a caller and a number
pub record TableObject : Type 0 where
  pub rows : List Row
  pub pins : List (ℕ × ℕ)
  pub next : ℕ
  pub limit : ℕ

-- a table without rows and pins
abbrev pub empty_table : ℕ → TableObject
empty_table cap = record { rows = []; pins = []; next = 0; limit = cap }

-- how many of the nodes before `n` have no row
abbrev pub fresh_before : List Row → List Node → ℕ → ℕ
fresh_before rows g zero = 0
fresh_before rows g (suc n) = fresh_before rows g n + (if is_none (find_row rows g n) then 1 else 0)

-- the number of node `n`: that of its row, or else the next one, counted up
abbrev pub row_number : List Row → ℕ → List Node → ℕ → ℕ
row_number rows next g n = unwrap_or (find_row rows g n) (next + fresh_before rows g n)

-- node `n` as a row, where it has none
abbrev pub fresh_row : List Row → ℕ → List Node → ℕ → Option Row
fresh_row rows next g n =
    if is_none (find_row rows g n)
    then option_map (λ l. record { number = row_number rows next g n; label = l; kids = map (row_number rows next g) (kids_of g n) }) (label_of g n)
    else None

-- the rows that the graph's nodes need, in the order of the nodes
abbrev pub fresh_rows : List Row → ℕ → List Node → List Row
fresh_rows rows next g = filter_map (fresh_row rows next g) (range_with_len 0 (length g))

-- what interning answers: a number with the table after it, or the rows, the fresh nodes and the limit
pub data Interned : Type 0 where
  kept : ℕ → TableObject → Interned
  full : ℕ → ℕ → ℕ → Interned

-- `who` interns the tree of node 0 of a canonical graph
abbrev pub intern : TableObject → ℕ → List Node → Interned
intern t who g =
    let fresh = fresh_before t.rows g (length g) in
    let root = row_number t.rows t.next g 0 in
    if nat_lt t.limit (length t.rows + fresh) then full (length t.rows) fresh t.limit
    else kept root (record {
      rows = t.rows ++ fresh_rows t.rows t.next g;
      pins = t.pins ++ (who, root) ∷ [];
      next = t.next + fresh;
      limit = t.limit;
    })

-- the ends of the walks of `count` kids from these rows
abbrev pub ends_after : List Row → ℕ → List ℕ → List ℕ
ends_after rows zero starts = starts
ends_after rows (suc count) starts = ends_after rows count (flat_map (kids_of_row rows) starts)

-- whether a walk of fewer kids than there are rows leads from a pin to the row
abbrev pub is_met : TableObject → ℕ → Bool
is_met t h = list_any (λ count. list_any (nat_eq h) (ends_after t.rows count (map (λ pin. pin.1) t.pins))) (range_with_len 0 (length t.rows))

-- the rows that no walk from a pin meets go
abbrev pub sweep : TableObject → TableObject
sweep t = record { rows = filter (λ row. is_met t row.number) t.rows; pins = t.pins; next = t.next; limit = t.limit }

-- how many rows a sweep takes away
abbrev pub swept : TableObject → ℕ
swept t = length t.rows - length (sweep t).rows

-- how many rows and how many pins there are
abbrev pub counts_of : TableObject → ℕ × ℕ
counts_of t = (length t.rows, length t.pins)
