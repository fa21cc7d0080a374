use Rattle.mars_canon.proofs.Forms.{same_trees_hash_alike}
use Rattle.mars_canon.proofs.laws.same_trees_hash_alike.Goals as goal

pub returns : goal.returns
returns c = same_trees_hash_alike
