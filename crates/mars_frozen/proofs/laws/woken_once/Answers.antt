use Rattle.mars_frozen.proofs.Wakes.{woken_once}
use Rattle.mars_frozen.proofs.laws.woken_once.Goals as goal

pub returns : goal.returns
returns c = woken_once
