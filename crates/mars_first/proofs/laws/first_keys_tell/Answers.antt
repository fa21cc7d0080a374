use Rattle.mars_first.proofs.FirstTrees.{first_tell}
use Rattle.mars_first.proofs.laws.first_keys_tell.Goals as goal

pub returns : goal.returns
returns c = first_tell
