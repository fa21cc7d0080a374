use Rattle.mars_back.proofs.OneForm.{solutions_keep_walks}
use Rattle.mars_back.proofs.laws.solutions_keep_walks.Goals as goal

pub returns : goal.returns
returns c = solutions_keep_walks
