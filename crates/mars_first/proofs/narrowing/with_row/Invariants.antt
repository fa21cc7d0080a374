use Rattle.std.proofs.Common.{◌≡◌, take}
use Rattle.mars_first.specs.ComponentInside.{chosen}
use Rattle.mars_first.proofs.narrowing.with_row.Given as goal

abbrev pub invariant-loop-place : goal.invariant-loop-place
invariant-loop-place l = l.left.items ≡ chosen (take l.place l.candidates) (take l.place l.rows) l.row
