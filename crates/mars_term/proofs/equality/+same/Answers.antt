use Rattle.std.proofs.Common.{◌<◌, arith, refl}
use Rattle.std.proofs.lemmas.Option.{slice_get_within}
use Rattle.mars_base.proofs.ListFacts.{one-from_gets}
use Rattle.mars_term.proofs.SameLemmas.{named_terms}
use Rattle.mars_term.proofs.equality.+same.Goals as goal

pub same_name-returns-then-is_name : goal.same_name-returns-then-is_name
same_name-returns-then-is_name t c =
    named_terms c.args.name c.in-Name.found c.args.terms.now c.in-Name.others c.as_slice.result.now c.args.other.now c.same_terms.result
    c.in-Name.is (c.is_name.ensures.0 c.if-is_name.true) c.as_slice.ensures c.same_terms.ensures

pub same_terms-returns : goal.same_terms-returns
same_terms-returns t c =
    let terms = c.args.terms.now in (
      λ e. one-from_gets terms c.args.others.now c.if-terms-others.false (λ k x y at other.
          let within : k < c.loop-place.place = omega (arith, slice_get_within terms k x at, c.loop-place-test.false) in
          c.loop-place.invariant k x y within at other),
      λ e. refl,
    )
