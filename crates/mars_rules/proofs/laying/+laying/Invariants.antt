use Rattle.std.proofs.Common.{◌≡◌, ◌≤◌, ◌+◌, ◌*◌, max, List, length, All}
use Rattle.mars_term.specs.declared.term.Term.{Term, Dot, size-Term}
use Rattle.mars_term.specs.Parts.{parts_of}
use Rattle.mars_term.specs.Rows.{dots}
use Rattle.mars_rules.specs.LayingInside.{IsRulePart, AreLaidTerms}
use Rattle.mars_rules.proofs.laying.+laying.Given as goal

-- so many terms were laid out
abbrev pub invariant-lay_terms-loop-term : goal.invariant-lay_terms-loop-term
invariant-lay_terms-loop-term l = AreLaidTerms l.vars l.fn.nodes l.nodes l.terms l.term-index l.places.items

-- the terms that were laid out and what is left are the whole row
abbrev pub invariant-lay_dots-loop-last : goal.invariant-lay_dots-loop-last
invariant-lay_dots-loop-last l = record {
  row : (terms : List Term) × (dots terms l.last ≡ Dot l.left l.right) × AreLaidTerms l.vars l.fn.nodes l.nodes terms (length terms) l.firsts.items;
  parts : All (IsRulePart l.vars) (parts_of l.last);
  size : size-Term l.last ≤ size-Term l.right;
}

abbrev pub decreases-lay_term : goal.decreases-lay_term
decreases-lay_term l = 2 * goal.size-lay_term l

abbrev pub decreases-lay_terms : goal.decreases-lay_terms
decreases-lay_terms l = 2 * goal.size-lay_terms l + 1

-- the deeper one of both
abbrev pub decreases-lay_dots : goal.decreases-lay_dots
decreases-lay_dots l = 2 * max (size-Term l.left.now) (size-Term l.right.now) + 1
