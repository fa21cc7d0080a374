use Rattle.std.proofs.Common.{◌≡◌, take}
use Rattle.mars_run.proofs.copying.copy_trees.Given as goal

-- so many trees were copied
abbrev pub invariant-loop-tree : goal.invariant-loop-tree
invariant-loop-tree l = l.copy.items ≡ take l.tree-index l.trees
