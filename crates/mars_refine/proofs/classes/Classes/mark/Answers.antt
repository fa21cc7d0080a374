use Rattle.std.proofs.Common.{◌<◌, length, arith, ap}
use Rattle.mars_refine.specs.Classes.{Parted}
use Rattle.mars_refine.proofs.Touching.{touched_more}
use Rattle.mars_refine.proofs.classes.Classes.mark.Goals as goal

pub invariant_of-self-2 : goal.invariant_of-self-2
invariant_of-self-2 c =
    let node_in : c.args.node < length c.self.inside.parts.of.items = omega (arith, ap (λ (p : Parted). length p.of) c.self.view_is) in
    let m = c.move_front.ensures in (
      m.parted,
      touched_more c.self.inside.parts.of.items c.self.inside.parts.order.items c.self.inside.parts.place.items c.self.inside.parts.spans.items _ c.self.invariant.0.spans c.touch.new.touched.items c.args.node c.move_front.new.parts.of.items _ (length c.move_front.new.parts.spans.items)
          node_in c.touch.ensures.touched c.in_ok-touch.ensures.there m.of m.count m.marked,
    )
