use Rattle.std.proofs.Common.{subst}
use Rattle.mars_reach.specs.Order.{AreDistinct}
use Rattle.mars_reach.proofs.Numbers.{distinct_from_unique}
use Rattle.mars_reach.proofs.order.Order.len.Goals as goal

pub returns-clause-distinct : goal.returns-clause-distinct
returns-clause-distinct c = subst AreDistinct c.self.view_is (distinct_from_unique c.self.inside.met.keys c.len.ensures.unique)
