use Rattle.mars_bridge.proofs.Growing.{kept_by}
use Rattle.mars_bridge.proofs.laws.nodes_keep.Goals as goal

pub returns : goal.returns
returns c = kept_by
