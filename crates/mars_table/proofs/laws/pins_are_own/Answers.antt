use Rattle.mars_table.proofs.PinLemmas.{pins_are_own}
use Rattle.mars_table.proofs.laws.pins_are_own.Goals as goal

pub returns : goal.returns
returns c = pins_are_own
