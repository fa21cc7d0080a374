use Rattle.mars_graphs.proofs.Telling.{made-solves}
use Rattle.mars_graphs.proofs.laws.graph_is_solution.Goals as goal

pub returns : goal.returns
returns c = made-solves
