use Rattle.std.proofs.Common.{◌++◌, ◌∷◌, [], ◌∙◌, sym, ap}
use Rattle.mars_comp.proofs.Gets.{take_next}
use Rattle.mars_first.proofs.narrowing.nodes_of.Goals as goal

pub loop-place-preserved : goal.loop-place-preserved
loop-place-preserved c = c.in_ok-push.ensures.items ∙ ap (λ xs. xs ++ c.get.result ∷ []) c.loop-place.invariant ∙ sym (take_next c.args.order.now c.loop-place.place c.get.result c.get.ensures)
