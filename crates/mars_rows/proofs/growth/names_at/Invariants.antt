use Rattle.std.proofs.Common.{◌≡◌, ℕ, ◌<◌, ◌+◌, ◌++◌, length, map, take, All}
use Rattle.std.specs.List.{range_with_len}
use Rattle.mars_rows.specs.StockInside.{number_of_node}
use Rattle.mars_rows.proofs.growth.names_at.Given as goal

abbrev pub invariant-loop-place : goal.invariant-loop-place
invariant-loop-place l = (count : ℕ) → All (λ place. place < length l.numbers + count) l.places → l.names.items ≡ map (number_of_node (l.numbers ++ range_with_len l.next count)) (take l.place-index l.places)
