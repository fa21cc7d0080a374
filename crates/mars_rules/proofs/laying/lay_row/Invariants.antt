use Rattle.std.proofs.Common.{◌<◌, List, ℕ, length, vec_len, All}
use Rattle.mars_tree.specs.Graph.{Node}
use Rattle.mars_term.specs.declared.term.Term.{Term}
use Rattle.mars_rules.specs.LayingInside.{IsLaidOut, AreLaidTerms, IsDotRow}
use Rattle.mars_rules.proofs.laying.lay_row.Given as goal

-- what is left of the row, and the term at the last place, are the whole row
abbrev pub invariant-loop-first : goal.invariant-loop-first
invariant-loop-first l = record {
  first : All (λ place. place < length l.nodes) l.firsts.items;
  last : l.last < length l.nodes;
  row : (vars : ℕ) (start : List Node) (terms : List Term) (term : Term) → AreLaidTerms vars start l.fn.nodes terms (length terms) l.initial.firsts.items → IsLaidOut vars start l.fn.nodes term l.initial.last
      → IsDotRow vars start l.nodes terms term l.firsts.items l.last;
}

abbrev pub decreases-loop-first : goal.decreases-loop-first
decreases-loop-first l = vec_len l.firsts
