use Rattle.mars_store.proofs.Growing.{equation_solved}
use Rattle.mars_store.proofs.laws.equation_solved.Goals as goal

pub returns : goal.returns
returns c = equation_solved
