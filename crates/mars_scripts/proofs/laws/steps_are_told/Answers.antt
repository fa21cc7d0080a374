use Rattle.mars_scripts.proofs.WellFormedLemmas.{makes-told}
use Rattle.mars_scripts.proofs.laws.steps_are_told.Goals as goal

pub returns : goal.returns
returns c = makes-told
