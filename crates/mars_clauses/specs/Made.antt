-- The code's rule or ask that is being read, as the definitions see it.
use Rattle.std.specs.Prelude.{reverse}
use Rattle.mars_clauses.specs.declared.making.ClauseMaking.{ClauseMaking}
use Rattle.mars_clauses.specs.Terms.{Unfinished}

-- the code has the innermost open name or tuple last
abbrev pub clause_of : ClauseMaking → Unfinished
clause_of s = record { asking = s.asking; most = s.most; vars = s.vars; kept = s.kept; head = s.head; goals = s.goals; rows = reverse s.rows.items }
