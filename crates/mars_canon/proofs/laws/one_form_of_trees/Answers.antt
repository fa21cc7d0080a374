use Rattle.mars_canon.proofs.Forms.{one_form_of_trees}
use Rattle.mars_canon.proofs.laws.one_form_of_trees.Goals as goal

pub returns : goal.returns
returns c = one_form_of_trees
