use Rattle.std.proofs.Common.{◌<◌, length, arith}
use Rattle.mars_store.proofs.Celled.{cells-nodes, cell-link}
use Rattle.mars_store.proofs.nodes.Nodes.link.Goals as goal

pub index-requires : goal.index-requires
index-requires c = omega (arith, cells-nodes c.self.inside.cells.items c.self.inside.kids.items c.args.self.now c.self.view_is, c.self.inside.cells.ok.0)

pub returns : goal.returns
returns c =
    let within : c.args.node < length c.self.inside.cells.items = omega (arith, cells-nodes c.self.inside.cells.items c.self.inside.kids.items c.args.self.now c.self.view_is) in
    cell-link c.self.inside.cells.items c.self.inside.kids.items c.args.self.now c.args.node c.index.result.now c.self.view_is within c.index.ensures
