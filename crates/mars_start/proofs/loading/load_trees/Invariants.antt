use Rattle.std.proofs.Common.{take}
use Rattle.mars_start.specs.LoadingInside.{AreTreesLoaded}
use Rattle.mars_start.proofs.loading.load_trees.Given as goal

-- so many trees were loaded
abbrev pub invariant-loop-tree : goal.invariant-loop-tree
invariant-loop-tree l = AreTreesLoaded l.store (take l.tree-index l.trees) l.roots.items
