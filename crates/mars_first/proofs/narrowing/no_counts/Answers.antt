use Rattle.mars_first.proofs.Choosing.{counts_zero, counts_begin}
use Rattle.mars_first.proofs.narrowing.no_counts.Goals as goal

pub loop-number-init : goal.loop-number-init
loop-number-init c = counts_begin c.new-counts.result.items c.new-counts.ensures.items

pub loop-number-preserved : goal.loop-number-preserved
loop-number-preserved c = counts_zero c.loop-number.number c.loop-number.counts.items c.push.new.self.items c.loop-number.invariant c.in_ok-push.ensures.items
