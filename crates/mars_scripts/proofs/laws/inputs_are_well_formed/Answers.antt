use Rattle.mars_scripts.proofs.WellFormedLemmas.{makes-well_formed_input}
use Rattle.mars_scripts.proofs.laws.inputs_are_well_formed.Goals as goal

pub returns : goal.returns
returns c = makes-well_formed_input c.clauses_are_well_formed.ensures
