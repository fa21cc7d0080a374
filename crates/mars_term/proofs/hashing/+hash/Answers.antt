use Rattle.std.specs.List.{fold}
use Rattle.mars_term.specs.declared.term.Term.{Term}
use Rattle.mars_term.specs.TermEquality.{term_writes}
use Rattle.mars_term.proofs.HashLemmas.{fed_name, fed_tuple, fed_dot, fed_step}
use Rattle.mars_term.proofs.RowLemmas.{dots-falls}
use Rattle.mars_term.proofs.hashing.+hash.Goals as goal

pub hash_term-returns-in-Name : goal.hash_term-returns-in-Name
hash_term-returns-in-Name g t c =
    fed_name g.H.Hasher.write c.args.state.now c.hash_name.new.state c.hash_terms.new.state c.in-Name.name c.in-Name.terms c.as_slice.result.now c.args.term.now
    c.in-Name.is c.as_slice.ensures c.hash_name.ensures c.hash_terms.ensures

pub hash_term-returns-in-Tup : goal.hash_term-returns-in-Tup
hash_term-returns-in-Tup g t c =
    fed_tuple g.H.Hasher.write c.args.state.now c.write_isize.new.self c.hash_terms-in-Tup.new.state c.in-Tup.terms c.as_slice-in-Tup.result.now c.args.term.now
    c.in-Tup.is c.as_slice-in-Tup.ensures c.write_isize.ensures c.hash_terms-in-Tup.ensures

pub hash_term-returns-in-Dot : goal.hash_term-returns-in-Dot
hash_term-returns-in-Dot g t c =
    fed_dot g.H.Hasher.write c.args.state.now c.hash_dots.new.state c.in-Dot.first c.in-Dot.rest c.get.result.now c.get-in-Dot.result.now c.args.term.now
    c.in-Dot.is c.get.ensures c.get-in-Dot.ensures c.hash_dots.ensures

pub hash_dots-loop-last-preserved : goal.hash_dots-loop-last-preserved
hash_dots-loop-last-preserved g t c =
    let left : Term = c.in-Dot.next in
    let right : Term = c.in-Dot.after in
    let last : Term = c.loop-last.last.now in (
      fed_step g.H.Hasher.write c.loop-last.state c.write_isize-in-Dot.new.self c.hash_term-in-Dot.new.state
          (fold g.H.Hasher.write c.hash_term.new.state (term_writes c.args.rest.now)) last left right c.get.result.now c.get-last.result.now
          c.in-Dot.is c.get.ensures c.get-last.ensures c.write_isize-in-Dot.ensures c.hash_term-in-Dot.ensures c.loop-last.invariant.0,
      rw c.get-last.ensures (dots-falls last left right _ c.in-Dot.is c.loop-last.invariant.1),
    )
