use Rattle.mars_first.specs.LinksInside.{stay}
use Rattle.mars_first.proofs.Linking.{kept_none, halved, read_twice}
use Rattle.mars_first.proofs.links.find.Goals as goal

pub loop-at-init : goal.loop-at-init
loop-at-init c = record { within = c.requires.node_in; kept = kept_none c.args.links.now.items c.requires.falling; leads = stay c.args.node }

pub loop-at-preserved : goal.loop-at-preserved
loop-at-preserved c =
    let i = c.loop-at.invariant in
    let h = halved c.args.links.now.items c.loop-at.links.items c.args.node c.loop-at.at c.index-next.result.now i.kept i.within i.leads
    (read_twice c.args.links.now.items c.loop-at.links.items c.loop-at.at c.index-in-loop-at.result.now c.index-next.result.now i.kept i.within c.index-in-loop-at.ensures c.index-next.ensures) in
    record { within = h.within; kept = h.kept; leads = h.leads }
