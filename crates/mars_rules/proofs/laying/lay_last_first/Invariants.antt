use Rattle.std.proofs.Common.{reverse}
use Rattle.mars_rules.specs.LayingInside.{AreLaidTerms}
use Rattle.mars_rules.proofs.laying.lay_last_first.Given as goal

-- so many of the last terms were laid out
abbrev pub invariant-loop-back : goal.invariant-loop-back
invariant-loop-back l = AreLaidTerms l.vars l.fn.nodes l.nodes (reverse l.terms) l.back l.places.items
