use Rattle.std.proofs.Common.{◌<◌, length, arith}
use Rattle.std.proofs.lemmas.Option.{slice_get-get_or}
use Rattle.mars_reach.proofs.Ordering.{met_more}
use Rattle.mars_reach.proofs.order.Order.meet_all.Goals as goal

pub loop-number-preserved : goal.loop-number-preserved
loop-number-preserved c =
    let xs = c.args.numbers.now in
    let k = c.loop-number.number-index in
    let within : k < length xs = omega arith in
    met_more c.args.self.now c.loop-number.self c.meet.new.self xs k _ (slice_get-get_or xs k 0 within) c.loop-number.invariant c.in_ok-meet.ensures.ok
