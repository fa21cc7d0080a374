use Rattle.mars_table.proofs.CallLemmas.{replies_are_determined}
use Rattle.mars_table.proofs.laws.replies_are_determined.Goals as goal

pub returns : goal.returns
returns c = replies_are_determined
