use Rattle.std.proofs.Common.{◌∙◌}
use Rattle.mars_term.proofs.RowLemmas.{dots-step, dots-falls}
use Rattle.mars_term.proofs.copying.+copy.Goals as goal

pub copy_dots-loop-last-preserved : goal.copy_dots-loop-last-preserved
copy_dots-loop-last-preserved t c = (
  dots-step c.loop-last.firsts.items c.push-in-Dot.new.self.items c.loop-last.last.now c.in_ok-copy_term-2.field-0 c.in-Dot.left c.get-last.result.now _
      (rw c.get-last.ensures c.in-Dot.is) (c.in_ok-copy_term-2.ensures ∙ c.get.ensures) c.in_ok-push-2.ensures.items c.loop-last.invariant.0,
  rw c.get-last.ensures (dots-falls c.loop-last.last.now c.in-Dot.left c.in-Dot.right _ c.in-Dot.is c.loop-last.invariant.1),
)
