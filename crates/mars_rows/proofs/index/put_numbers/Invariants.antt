use Rattle.mars_rows.specs.IndexInside.{PutsNumbers}
use Rattle.mars_rows.proofs.index.put_numbers.Given as goal

abbrev pub invariant-loop-place : goal.invariant-loop-place
invariant-loop-place l = PutsNumbers l.nodes l.rows l.place l.fn.numbers.items l.numbers.items
