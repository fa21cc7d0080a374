use Rattle.std.proofs.Common.{◌∷◌, [], ◌-◌, get_or, arith}
use Rattle.std.proofs.lemmas.List.Elements.{Contains-append_left}
use Rattle.mars_frozen.proofs.Filing.{added-next}
use Rattle.mars_frozen.proofs.waking.add_unfiled.Goals as goal

pub loop-place-preserved : goal.loop-place-preserved
loop-place-preserved c =
    let i = c.loop-place.invariant in
    record {
      within = omega (arith, i.within);
      kept = λ number k. rw c.in_ok-push.ensures.items (Contains-append_left c.loop-place.touched.items (get_or c.args.numbers.now (c.loop-place.place - 1) 0 ∷ []) number (i.kept number k));
      added = added-next c.args.numbers.now c.loop-place.touched.items c.push.new.self.items c.loop-place.place i.added c.in_ok-push.ensures.items (omega arith);
    }

pub returns-in_err-push-clause-kept : goal.returns-in_err-push-clause-kept
returns-in_err-push-clause-kept c number k = rw c.in_err-push.ensures.items (c.loop-place.invariant.kept number k)
