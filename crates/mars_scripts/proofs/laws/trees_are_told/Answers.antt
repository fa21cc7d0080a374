use Rattle.mars_scripts.proofs.WellFormedLemmas.{tells-tree}
use Rattle.mars_scripts.proofs.laws.trees_are_told.Goals as goal

pub returns : goal.returns
returns c = tells-tree
