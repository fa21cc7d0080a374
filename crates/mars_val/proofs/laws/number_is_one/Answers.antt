use Rattle.mars_val.proofs.Numbers.{number_is_one}
use Rattle.mars_val.proofs.laws.number_is_one.Goals as goal

pub returns : goal.returns
returns c = number_is_one
