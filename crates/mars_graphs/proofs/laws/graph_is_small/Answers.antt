use Rattle.mars_graphs.proofs.Sizes.{made-small}
use Rattle.mars_graphs.proofs.laws.graph_is_small.Goals as goal

pub returns : goal.returns
returns c = made-small
