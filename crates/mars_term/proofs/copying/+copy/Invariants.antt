use Rattle.std.proofs.Common.{◌≡◌, ◌≤◌, ◌+◌, ◌*◌, max, take}
use Rattle.mars_term.specs.Rows.{dots}
use Rattle.mars_term.specs.declared.term.Term.{Dot, size-Term}
use Rattle.mars_term.proofs.copying.+copy.Given as goal

-- the copies so far and what is left are the whole row
abbrev pub invariant-copy_dots-loop-last : goal.invariant-copy_dots-loop-last
invariant-copy_dots-loop-last l = (dots l.firsts.items l.last ≡ Dot l.left l.right) × (size-Term l.last ≤ size-Term l.right)

-- so many terms were copied
abbrev pub invariant-copy_terms-loop-term : goal.invariant-copy_terms-loop-term
invariant-copy_terms-loop-term l = l.copy ≡ take l.term-index l.terms

abbrev pub decreases-copy_term : goal.decreases-copy_term
decreases-copy_term l = 2 * goal.size-copy_term l

abbrev pub decreases-copy_terms : goal.decreases-copy_terms
decreases-copy_terms l = 2 * goal.size-copy_terms l + 1

-- the deeper one of both
abbrev pub decreases-copy_dots : goal.decreases-copy_dots
decreases-copy_dots l = 2 * max (size-Term l.left.now) (size-Term l.right.now) + 1
