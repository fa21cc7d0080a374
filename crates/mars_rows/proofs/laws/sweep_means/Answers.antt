use Rattle.mars_rows.proofs.Swept.{sweep_means}
use Rattle.mars_rows.proofs.laws.sweep_means.Goals as goal

pub returns : goal.returns
returns c = sweep_means
