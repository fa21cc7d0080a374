use Rattle.mars_tree.proofs.Equal.{equal_by_both, unequal_by_labels, tested_nodes}
use Rattle.mars_tree.proofs.graph.equality.GraphPartialEq.eq.Goals as goal

pub returns-then-eq-clause-same : goal.returns-then-eq-clause-same
returns-then-eq-clause-same c = equal_by_both c.self.inside.labels.items c.other.inside.labels.items c.self.inside.kids.items c.other.inside.kids.items c.args.self.now c.args.other.now c.self.invariant.size c.other.invariant.size c.self.view_is c.other.view_is c.eq.result c.eq-then-eq.result c.eq.ensures c.eq-then-eq.ensures c.if-eq.true

pub returns-then-eq-clause-value : goal.returns-then-eq-clause-value
returns-then-eq-clause-value c = tested_nodes c.args.self.now c.args.other.now c.eq-then-eq.result (returns-then-eq-clause-same c)

pub returns-else-eq-clause-same : goal.returns-else-eq-clause-same
returns-else-eq-clause-same c = unequal_by_labels c.self.inside.labels.items c.other.inside.labels.items c.self.inside.kids.items c.other.inside.kids.items c.args.self.now c.args.other.now c.self.invariant.size c.other.invariant.size c.self.view_is c.other.view_is c.eq.result c.eq.ensures c.if-eq.false

pub returns-else-eq-clause-value : goal.returns-else-eq-clause-value
returns-else-eq-clause-value c = tested_nodes c.args.self.now c.args.other.now c.eq.result (returns-else-eq-clause-same c)
