use Rattle.std.proofs.Common.{refl}
use Rattle.mars_first.proofs.Staging.{stages_more}
use Rattle.mars_first.proofs.stages.push_kid_stages.Goals as goal

pub loop-kid-preserved : goal.loop-kid-preserved
loop-kid-preserved c =
    stages_more c.args.places.now c.args.from c.args.heads.now c.loop-kid.kid c.args.stages.now.items c.loop-kid.stages.items c.push.new.self.items
    (record { from = c.args.from; kid = c.loop-kid.kid; nodes = c.in_ok-nodes.nodes }) c.loop-kid.invariant (record { from_is = refl; kid_is = refl; kids = c.in_ok-nodes.ensures }) c.in_ok-push.ensures.items
