use Rattle.std.proofs.Common.{subst}
use Rattle.mars_start.specs.LoadingInside.{IsTreeLoaded}
use Rattle.mars_start.proofs.LoadedTrees.{trees-next}
use Rattle.mars_start.proofs.loading.load_trees.Goals as goal

pub loop-tree-preserved : goal.loop-tree-preserved
loop-tree-preserved c =
    trees-next c.loop-tree.store c.load_tree.new.store c.args.trees.now c.loop-tree.roots.items c.push.new.self.items c.loop-tree.tree-index c.tree-item.result c.in_ok-load_tree.field-0
    c.loop-tree-test.true c.loop-tree.invariant
    (subst (λ g. IsTreeLoaded c.loop-tree.store c.load_tree.new.store g c.in_ok-load_tree.field-0) c.tree-item.is c.in_ok-load_tree.ensures) c.in_ok-push.ensures.items
