use Rattle.mars_canon.proofs.Forms.{one_tree}
use Rattle.mars_canon.proofs.laws.one_tree.Goals as goal

pub returns : goal.returns
returns c = one_tree
