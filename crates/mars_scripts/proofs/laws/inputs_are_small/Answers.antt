use Rattle.mars_scripts.proofs.SizeLemmas.{makes-small_input}
use Rattle.mars_scripts.proofs.laws.inputs_are_small.Goals as goal

pub returns : goal.returns
returns c = makes-small_input
