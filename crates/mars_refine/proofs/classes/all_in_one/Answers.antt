use Rattle.std.proofs.Common.{ℕ, ◌≡◌, ◌<◌, ◌⊎◌, [], ◌∷◌, false, replicate, length, ap, refl, sym, arith, inl, inr}
use Rattle.std.proofs.lemmas.List.{length-replicate}
use Rattle.mars_refine.proofs.Marking.{marks_are, as_they_stand}
use Rattle.mars_refine.proofs.Parting.{one_class}
use Rattle.mars_refine.proofs.classes.all_in_one.Goals as goal
use Rattle.mars_refine.proofs.classes.all_in_one.Goals.{then-count-gt0+in_ok-push, else-count-gt0}

pub returns-clause-parted : goal.returns-clause-parted
returns-clause-parted c =
    let spans : ((0 < c.args.count) × (c.if-count-gt0.spans.items ≡ record { start = 0; middle = 0; end = c.args.count } ∷ [])) ⊎ ((c.args.count ≡ 0) × (c.if-count-gt0.spans.items ≡ [])) =
    elim c.if-count-gt0.branch [
      | then-count-gt0+in_ok-push w ↦ inl (w.if-count-gt0.true, cc (w.in_ok-push.ensures.items, c.new-spans.ensures.items, w.spans-is))
      | else-count-gt0 w ↦ inr (omega (arith, w.if-count-gt0.false), cc (c.new-spans.ensures.items, w.spans-is))
    ] in
    let order = c.in_ok-numbers_below.ensures in
    let place = c.in_ok-numbers_below-2.ensures in
    record {
      spans = as_they_stand _ _ _ _ _ (one_class c.args.count c.in_ok-zeros.field-0.items c.in_ok-numbers_below.field-0.items c.in_ok-numbers_below-2.field-0.items c.if-count-gt0.spans.items (replicate c.args.count false)
          (c.in_ok-zeros.ensures.items) refl order.are order.size place.are place.size spans);
      room = record { of_most = omega (arith, ap length c.in_ok-zeros.ensures.items, length-replicate {A = ℕ} c.args.count 0, c.in_ok-zeros.ensures.most); order_most = omega (arith, ap length c.in_ok-zeros.ensures.items, length-replicate {A = ℕ} c.args.count 0, order.most); place_most = omega (arith, ap length c.in_ok-zeros.ensures.items, length-replicate {A = ℕ} c.args.count 0, place.most) };
    }

pub returns-clause-marked : goal.returns-clause-marked
returns-clause-marked c =
    let spans : ((0 < c.args.count) × (c.if-count-gt0.spans.items ≡ record { start = 0; middle = 0; end = c.args.count } ∷ [])) ⊎ ((c.args.count ≡ 0) × (c.if-count-gt0.spans.items ≡ [])) =
    elim c.if-count-gt0.branch [
      | then-count-gt0+in_ok-push w ↦ inl (w.if-count-gt0.true, cc (w.in_ok-push.ensures.items, c.new-spans.ensures.items, w.spans-is))
      | else-count-gt0 w ↦ inr (omega (arith, w.if-count-gt0.false), cc (c.new-spans.ensures.items, w.spans-is))
    ] in
    let order = c.in_ok-numbers_below.ensures in
    let place = c.in_ok-numbers_below-2.ensures in
    sym (marks_are _ _ _ _ _ (one_class c.args.count c.in_ok-zeros.field-0.items c.in_ok-numbers_below.field-0.items c.in_ok-numbers_below-2.field-0.items c.if-count-gt0.spans.items (replicate c.args.count false)
    (c.in_ok-zeros.ensures.items) refl order.are order.size place.are place.size spans))
