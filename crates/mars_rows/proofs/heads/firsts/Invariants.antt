use Rattle.mars_rows.specs.HeadsInside.{AreFirsts}
use Rattle.mars_rows.proofs.heads.firsts.Given as goal

abbrev pub invariant-loop-place : goal.invariant-loop-place
invariant-loop-place l = AreFirsts l.parts l.pairs l.place l.heads.items
