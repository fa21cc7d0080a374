use Rattle.mars_bridge.proofs.Terms.{tree_same}
use Rattle.mars_bridge.proofs.laws.alike_terms_same.Goals as goal

pub returns : goal.returns
returns c = tree_same
