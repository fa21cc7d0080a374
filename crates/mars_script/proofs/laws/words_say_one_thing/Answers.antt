use Rattle.mars_script.proofs.Exact.{says_once}
use Rattle.mars_script.proofs.laws.words_say_one_thing.Goals as goal

pub returns : goal.returns
returns c = says_once
