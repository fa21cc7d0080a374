use Rattle.std.proofs.Common.{arith}
use Rattle.mars_store.proofs.Celled.{cells-nodes, cells-links}
use Rattle.mars_store.proofs.nodes.Nodes.len.Goals as goal

pub returns-clause-nodes : goal.returns-clause-nodes
returns-clause-nodes c = omega (arith, cells-nodes c.self.inside.cells.items c.self.inside.kids.items c.args.self.now c.self.view_is, c.self.inside.cells.ok.0)

pub returns-clause-links : goal.returns-clause-links
returns-clause-links c = omega (arith, cells-links c.self.inside.cells.items c.self.inside.kids.items c.args.self.now c.self.view_is, c.self.inside.cells.ok.0)
