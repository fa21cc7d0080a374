use Rattle.mars_canon.proofs.Forms.{same_tree_hashes_alike}
use Rattle.mars_canon.proofs.laws.same_tree_hashes_alike.Goals as goal

pub returns : goal.returns
returns c = same_tree_hashes_alike
