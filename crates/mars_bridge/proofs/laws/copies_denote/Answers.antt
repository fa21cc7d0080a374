use Rattle.mars_bridge.proofs.Copied.{copied_denotes}
use Rattle.mars_bridge.proofs.laws.copies_denote.Goals as goal

pub returns : goal.returns
returns c = copied_denotes
