use Rattle.mars_rows.proofs.Pinned.{sweep_keeps_met}
use Rattle.mars_rows.proofs.laws.sweep_keeps_met.Goals as goal

pub returns : goal.returns
returns c = sweep_keeps_met
