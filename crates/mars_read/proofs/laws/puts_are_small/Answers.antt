use Rattle.mars_read.proofs.PutTrees.{puts-small}
use Rattle.mars_read.proofs.laws.puts_are_small.Goals as goal

pub returns : goal.returns
returns c = puts-small
