use Rattle.mars_table.proofs.PinLemmas.{calls_are_own}
use Rattle.mars_table.proofs.laws.calls_are_own.Goals as goal

pub returns : goal.returns
returns c = calls_are_own
