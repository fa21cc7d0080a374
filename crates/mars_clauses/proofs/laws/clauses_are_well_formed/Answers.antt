use Rattle.mars_clauses.proofs.WellFormedLemmas.{makes-well_formed}
use Rattle.mars_clauses.proofs.laws.clauses_are_well_formed.Goals as goal

pub returns : goal.returns
returns c = makes-well_formed
