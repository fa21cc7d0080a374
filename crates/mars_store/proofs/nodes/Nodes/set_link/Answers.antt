use Rattle.std.proofs.Common.{◌<◌, length, arith, refl}
use Rattle.mars_store.proofs.Celled.{cells-nodes, cells-set}
use Rattle.mars_store.proofs.nodes.Nodes.set_link.Goals as goal

pub index_mut-requires : goal.index_mut-requires
index_mut-requires c = omega (arith, cells-nodes c.self.inside.cells.items c.self.inside.kids.items c.args.self.now c.self.view_is, c.self.inside.cells.ok.0)

pub invariant_of-self : goal.invariant_of-self
invariant_of-self c =
    let within : c.args.node < length c.self.inside.cells.items = omega (arith, cells-nodes c.self.inside.cells.items c.self.inside.kids.items c.args.self.now c.self.view_is) in
    (cells-set c.self.inside.cells.items c.self.inside.kids.items c.args.self.now c.args.node c.args.to c.index_mut.result.now c.self.invariant c.self.view_is within c.index_mut.ensures.value _ refl).0

pub returns-clause-nodes : goal.returns-clause-nodes
returns-clause-nodes c =
    let within : c.args.node < length c.self.inside.cells.items = omega (arith, cells-nodes c.self.inside.cells.items c.self.inside.kids.items c.args.self.now c.self.view_is) in
    (cells-set c.self.inside.cells.items c.self.inside.kids.items c.args.self.now c.args.node c.args.to c.index_mut.result.now c.self.invariant c.self.view_is within c.index_mut.ensures.value _ refl).1

pub returns-clause-links : goal.returns-clause-links
returns-clause-links c =
    let within : c.args.node < length c.self.inside.cells.items = omega (arith, cells-nodes c.self.inside.cells.items c.self.inside.kids.items c.args.self.now c.self.view_is) in
    (cells-set c.self.inside.cells.items c.self.inside.kids.items c.args.self.now c.args.node c.args.to c.index_mut.result.now c.self.invariant c.self.view_is within c.index_mut.ensures.value _ refl).2
