use Rattle.std.proofs.Common.{◌≡◌, ℕ, ◌+◌, List, length, get_or, Some, slice_get, subst, sym, ap, ◌∙◌, arith}
use Rattle.std.proofs.lemmas.Option.{slice_get-get_or}
use Rattle.mars_rows.specs.HeadsInside.{AreFirsts}
use Rattle.mars_rows.proofs.HeadOrder.{no_firsts, one_first, no_first, firsts_are_heads}
use Rattle.mars_rows.proofs.heads.firsts.Goals as goal
use Rattle.mars_rows.proofs.heads.firsts.Goals.{then-is_first+in_ok-push, else-is_first}

pub loop-place-init : goal.loop-place-init
loop-place-init c = subst (AreFirsts c.args.parts.now c.args.pairs.now 0) (sym c.new-heads.ensures.items) (no_firsts c.args.parts.now c.args.pairs.now c.requires)

pub loop-place-preserved : goal.loop-place-preserved
loop-place-preserved c =
    let parts = c.args.parts.now in
    let pairs : List (ℕ × ℕ) = c.args.pairs.now in
    let k : ℕ = c.loop-place.place in
    let p : ℕ × ℕ = get_or pairs k (0, 0) in
    let at : slice_get pairs k ≡ Some p = slice_get-get_or pairs k (0, 0) c.loop-place-test.true in
    let heads = c.loop-place.heads.items in
    elim c.if-is_first.branch [
      | then-is_first+in_ok-push w ↦
          subst (AreFirsts parts pairs (k + 1)) (sym (ap (λ v. v.items) w.heads-is ∙ w.in_ok-push.ensures.items))
          (one_first parts pairs c.requires k p at heads c.loop-place.invariant (sym c.is_first.ensures ∙ w.if-is_first.true))
      | else-is_first w ↦
          subst (AreFirsts parts pairs (k + 1)) (sym (ap (λ v. v.items) w.heads-is))
          (no_first parts pairs c.requires k p at heads c.loop-place.invariant (sym c.is_first.ensures ∙ w.if-is_first.false))
    ]

pub returns : goal.returns
returns c =
    let parts = c.args.parts.now in
    let pairs : List (ℕ × ℕ) = c.args.pairs.now in
    let end : c.loop-place.place ≡ length pairs = omega (arith, c.loop-place-test.false, c.loop-place.auto.place-end) in
    firsts_are_heads parts pairs c.requires c.loop-place.heads.items (subst (λ (k : ℕ). AreFirsts parts pairs k c.loop-place.heads.items) end c.loop-place.invariant)
