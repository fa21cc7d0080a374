use Rattle.mars_rows.proofs.Pinned.{intern_keeps_met}
use Rattle.mars_rows.proofs.laws.intern_keeps_met.Goals as goal

pub returns : goal.returns
returns c = intern_keeps_met
