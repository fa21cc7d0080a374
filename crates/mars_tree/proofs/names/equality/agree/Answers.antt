use Rattle.std.proofs.Common.{◌<◌, arith, refl}
use Rattle.std.proofs.lemmas.Option.{slice_get_within}
use Rattle.mars_base.proofs.ListFacts.{one-from_gets}
use Rattle.mars_tree.proofs.names.equality.agree.Goals as goal

pub returns : goal.returns
returns c =
    let left = c.args.left.now in
    let right = c.args.right.now in (
      λ e. one-from_gets left right c.requires (λ k x y at other.
          let within : k < c.loop-place.place = omega (arith, slice_get_within left k x at, c.loop-place-test.false, c.len-place-end.ensures.len) in
          c.loop-place.invariant k x y within at other),
      λ e. refl,
    )
