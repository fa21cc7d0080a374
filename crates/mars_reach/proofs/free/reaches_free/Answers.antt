use Rattle.mars_reach.proofs.Walked.{free_decided}
use Rattle.mars_reach.proofs.free.reaches_free.Goals as goal

pub returns : goal.returns
returns c =
    let d = free_decided c.args.graph.now c.args.root c.in_ok-order.order c.has_free-free.result c.in_ok-order.ensures.reach c.has_free-free.ensures.some c.has_free-free.ensures.none in
    record { reaches = d.0; reaches_none = d.1 }
