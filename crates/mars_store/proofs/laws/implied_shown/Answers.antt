use Rattle.mars_store.proofs.Shown.{same_shown}
use Rattle.mars_store.proofs.laws.implied_shown.Goals as goal

pub returns : goal.returns
returns c = same_shown
