use Rattle.std.proofs.Common.{◌≡◌, ◌≤◌, ◌+◌, ◌*◌, max, List, length, take, All}
use Rattle.mars_term.specs.declared.term.Term.{Term, Dot, size-Term}
use Rattle.mars_term.specs.Parts.{parts_of}
use Rattle.mars_term.specs.Rows.{dots}
use Rattle.mars_start.specs.WritingInside.{IsAskPart, AreTermsWritten}
use Rattle.mars_start.proofs.writing.+writing.Given as goal

-- so many terms were written
abbrev pub invariant-write_terms-loop-term : goal.invariant-write_terms-loop-term
invariant-write_terms-loop-term l = AreTermsWritten l.fn.store l.store l.vars l.kept (take l.term-index l.terms) l.nodes.items

-- the terms that were written and what is left are the whole row
abbrev pub invariant-write_dots-loop-last : goal.invariant-write_dots-loop-last
invariant-write_dots-loop-last l = record {
  row : (terms : List Term) × (dots terms l.last ≡ Dot l.left l.right) × AreTermsWritten l.fn.store l.store l.vars l.kept terms l.firsts.items;
  parts : All (IsAskPart (length l.vars) (length l.kept)) (parts_of l.last);
  size : size-Term l.last ≤ size-Term l.right;
}

abbrev pub decreases-write_term : goal.decreases-write_term
decreases-write_term l = 2 * goal.size-write_term l

abbrev pub decreases-write_terms : goal.decreases-write_terms
decreases-write_terms l = 2 * goal.size-write_terms l + 1

-- the deeper one of both
abbrev pub decreases-write_dots : goal.decreases-write_dots
decreases-write_dots l = 2 * max (size-Term l.left.now) (size-Term l.right.now) + 1
