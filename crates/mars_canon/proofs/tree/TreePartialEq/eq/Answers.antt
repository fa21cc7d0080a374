use Rattle.mars_tree.proofs.Equal.{tested_nodes}
use Rattle.mars_canon.proofs.Forms.{tree_decided}
use Rattle.mars_canon.proofs.Plain.{is_tree, trees_by_both, trees_by_labels}
use Rattle.mars_canon.proofs.tree.TreePartialEq.eq.Goals as goal

pub returns-then-eq-clause-same : goal.returns-then-eq-clause-same
returns-then-eq-clause-same c = trees_by_both c.self.inside.labels.items c.other.inside.labels.items c.self.inside.kids.items c.other.inside.kids.items c.args.self.now c.args.other.now c.self.invariant.laid.size c.other.invariant.laid.size c.self.view_is c.other.view_is c.eq.result c.eq-then-eq.result c.eq.ensures c.eq-then-eq.ensures c.if-eq.true

pub returns-then-eq-clause-value : goal.returns-then-eq-clause-value
returns-then-eq-clause-value c = tested_nodes c.args.self.now c.args.other.now c.eq-then-eq.result (returns-then-eq-clause-same c)

pub returns-then-eq-clause-trees : goal.returns-then-eq-clause-trees
returns-then-eq-clause-trees c = tree_decided c.args.self.now c.args.other.now c.eq-then-eq.result (is_tree c.self.inside.labels.items c.self.inside.kids.items c.args.self.now c.self.view_is c.self.inside.starts.items c.self.invariant.laid c.self.invariant.canonical c.self.invariant.few) (is_tree c.other.inside.labels.items c.other.inside.kids.items c.args.other.now c.other.view_is c.other.inside.starts.items c.other.invariant.laid c.other.invariant.canonical c.other.invariant.few) (returns-then-eq-clause-same c)

pub returns-else-eq-clause-same : goal.returns-else-eq-clause-same
returns-else-eq-clause-same c = trees_by_labels c.self.inside.labels.items c.other.inside.labels.items c.self.inside.kids.items c.other.inside.kids.items c.args.self.now c.args.other.now c.self.invariant.laid.size c.other.invariant.laid.size c.self.view_is c.other.view_is c.eq.result c.eq.ensures c.if-eq.false

pub returns-else-eq-clause-value : goal.returns-else-eq-clause-value
returns-else-eq-clause-value c = tested_nodes c.args.self.now c.args.other.now c.eq.result (returns-else-eq-clause-same c)

pub returns-else-eq-clause-trees : goal.returns-else-eq-clause-trees
returns-else-eq-clause-trees c = tree_decided c.args.self.now c.args.other.now c.eq.result (is_tree c.self.inside.labels.items c.self.inside.kids.items c.args.self.now c.self.view_is c.self.inside.starts.items c.self.invariant.laid c.self.invariant.canonical c.self.invariant.few) (is_tree c.other.inside.labels.items c.other.inside.kids.items c.args.other.now c.other.view_is c.other.inside.starts.items c.other.invariant.laid c.other.invariant.canonical c.other.invariant.few) (returns-else-eq-clause-same c)
