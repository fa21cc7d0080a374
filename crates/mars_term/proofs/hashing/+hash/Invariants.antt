use Rattle.std.proofs.Common.{◌≡◌, ◌≤◌, ◌+◌, ◌*◌, max, take}
use Rattle.std.specs.List.{flat_map, fold}
use Rattle.mars_term.specs.declared.term.Term.{size-Term}
use Rattle.mars_term.specs.TermEquality.{term_writes}
use Rattle.mars_term.proofs.hashing.+hash.Given as goal

-- with what is left of the row, it is the whole row
abbrev pub invariant-hash_dots-loop-last : goal.invariant-hash_dots-loop-last
invariant-hash_dots-loop-last g l =
    (fold g.H.Hasher.write l.state (term_writes l.last) ≡ fold g.H.Hasher.write l.initial.state (term_writes l.rest)) × (size-Term l.last ≤ size-Term l.rest)

-- so many terms were fed
abbrev pub invariant-hash_terms-loop-place : goal.invariant-hash_terms-loop-place
invariant-hash_terms-loop-place g l = l.state ≡ fold g.H.Hasher.write l.initial.state (flat_map term_writes (take l.place l.terms))

abbrev pub decreases-hash_term : goal.decreases-hash_term
decreases-hash_term g l = 3 * size-Term l.term.now

abbrev pub decreases-hash_terms : goal.decreases-hash_terms
decreases-hash_terms g l = 3 * goal.size-hash_terms g l + 1

-- the deeper one of both
abbrev pub decreases-hash_dots : goal.decreases-hash_dots
decreases-hash_dots g l = 3 * max (size-Term l.first.now) (size-Term l.rest.now) + 1
