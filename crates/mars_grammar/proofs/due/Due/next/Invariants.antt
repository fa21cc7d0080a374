use Rattle.std.proofs.Common.{◌≡◌, [], length, reverse}
use Rattle.mars_grammar.specs.DueInside.{in_rows}
use Rattle.mars_grammar.proofs.due.Due.next.Given as goal

abbrev pub invariant-loop-row : goal.invariant-loop-row
invariant-loop-row g l = (l.self-inside.row.now ≡ []) × (l.fn.self ≡ in_rows (reverse l.self-inside.outer.items))

abbrev pub decreases-loop-row : goal.decreases-loop-row
decreases-loop-row g l = length l.self-inside.outer.items
