use Rattle.std.proofs.Common.{arith}
use Rattle.mars_canon.proofs.Plain.{plain-length, is_tree}
use Rattle.mars_canon.proofs.tree.Tree.len.Goals as goal

pub returns-clause-len : goal.returns-clause-len
returns-clause-len c = omega (arith, plain-length c.self.inside.labels.items c.self.inside.kids.items c.args.self.now c.self.view_is, c.self.inside.labels.ok.0)

pub returns-clause-tree : goal.returns-clause-tree
returns-clause-tree c = is_tree c.self.inside.labels.items c.self.inside.kids.items c.args.self.now c.self.view_is c.self.inside.starts.items c.self.invariant.laid c.self.invariant.canonical c.self.invariant.few
