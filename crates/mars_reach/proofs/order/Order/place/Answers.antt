use Rattle.std.proofs.Common.{ap, ◌∙◌}
use Rattle.mars_reach.specs.Order.{place_in}
use Rattle.mars_reach.proofs.Queues.{found_place}
use Rattle.mars_reach.proofs.order.Order.place.Goals as goal

pub returns : goal.returns
returns c = found_place c.self.inside.met.keys c.args.number c.in-Some.place c.in-Some.ensures.index ∙ ap (λ xs. place_in xs c.args.number) c.self.view_is
