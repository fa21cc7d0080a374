use Rattle.mars_table.proofs.CallLemmas.{intern_takes_unmet}
use Rattle.mars_table.proofs.laws.intern_takes_unmet.Goals as goal

pub returns : goal.returns
returns c = intern_takes_unmet
