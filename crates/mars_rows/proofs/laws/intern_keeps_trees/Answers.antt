use Rattle.mars_rows.proofs.Pinned.{intern_keeps_trees}
use Rattle.mars_rows.proofs.laws.intern_keeps_trees.Goals as goal

pub returns : goal.returns
returns c = intern_keeps_trees
