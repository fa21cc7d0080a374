use Rattle.std.proofs.Common.{length, arith, ap}
use Rattle.mars_refine.specs.Classes.{Parted}
use Rattle.mars_refine.proofs.Parting.{few_classes}
use Rattle.mars_refine.proofs.classes.Classes.count.Goals as goal

pub returns-clause-few : goal.returns-clause-few
returns-clause-few c = omega (arith, few_classes c.self.inside.parts.of.items c.self.inside.parts.order.items c.self.inside.parts.place.items c.self.inside.parts.spans.items _ c.self.invariant.0.spans, c.self.inside.parts.spans.ok.0, c.len.ensures, ap (λ (p : Parted). length p.of) c.self.view_is)
