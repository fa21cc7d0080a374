use Rattle.std.proofs.Common.{◌≡◌, ◌↔◌, ◌<◌, ◌≤◌, ◌+◌, ◌*◌, max, ℕ, Some, slice_get}
use Rattle.mars_term.specs.declared.term.Term.{Term, Dot, size-Term}
use Rattle.mars_term.proofs.equality.+same.Given as goal

-- both rows are one exactly where what is left of them is
abbrev pub invariant-same_dots-loop-last : goal.invariant-same_dots-loop-last
invariant-same_dots-loop-last l = ((Dot l.first l.rest ≡ l.other) ↔ (l.last ≡ l.other_last)) × (size-Term l.last ≤ size-Term l.rest)

-- both lists agree so far
abbrev pub invariant-same_terms-loop-place : goal.invariant-same_terms-loop-place
invariant-same_terms-loop-place l = (k : ℕ) (x y : Term) → k < l.place → slice_get l.terms k ≡ Some x → slice_get l.others k ≡ Some y → x ≡ y

abbrev pub decreases-same_term : goal.decreases-same_term
decreases-same_term l = 3 * size-Term l.term.now

abbrev pub decreases-same_name : goal.decreases-same_name
decreases-same_name l = 3 * goal.size-same_name l + 2

abbrev pub decreases-same_tuple : goal.decreases-same_tuple
decreases-same_tuple l = 3 * goal.size-same_tuple l + 2

abbrev pub decreases-same_terms : goal.decreases-same_terms
decreases-same_terms l = 3 * goal.size-same_terms l + 1

-- the deeper one of both
abbrev pub decreases-same_dots : goal.decreases-same_dots
decreases-same_dots l = 3 * max (size-Term l.first.now) (size-Term l.rest.now) + 1
