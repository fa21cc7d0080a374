use Rattle.std.proofs.Common.{◌<◌, length, arith}
use Rattle.mars_tree.proofs.Laid.{seen-within, seen-kid}
use Rattle.mars_store.specs.CellsInside.{labels_in, starts_in}
use Rattle.mars_store.proofs.Celled.{cells-nodes, cell-start, nodes-seen}
use Rattle.mars_store.proofs.nodes.Nodes.kid.Goals as goal

pub index-requires : goal.index-requires
index-requires c = omega (arith, cells-nodes c.self.inside.cells.items c.self.inside.kids.items c.args.self.now c.self.view_is, c.self.inside.cells.ok.0)

pub overflow_add-index : goal.overflow_add-index
overflow_add-index c =
    let within : c.args.node < length c.self.inside.cells.items = omega (arith, cells-nodes c.self.inside.cells.items c.self.inside.kids.items c.args.self.now c.self.view_is) in
    let start = cell-start c.self.inside.cells.items c.args.node c.index.result.now within c.index.ensures in
    omega (arith, seen-within (labels_in c.self.inside.cells.items) (starts_in c.self.inside.cells.items) c.self.inside.kids.items c.args.self.now.nodes c.args.node c.index.result.now.start c.args.place c.self.invariant (nodes-seen c.self.inside.cells.items c.self.inside.kids.items c.args.self.now c.self.view_is) c.requires.inside start c.requires.place, c.self.inside.kids.ok.0)

pub index-requires-2 : goal.index-requires-2
index-requires-2 c =
    let within : c.args.node < length c.self.inside.cells.items = omega (arith, cells-nodes c.self.inside.cells.items c.self.inside.kids.items c.args.self.now c.self.view_is) in
    let start = cell-start c.self.inside.cells.items c.args.node c.index.result.now within c.index.ensures in
    omega (arith, seen-within (labels_in c.self.inside.cells.items) (starts_in c.self.inside.cells.items) c.self.inside.kids.items c.args.self.now.nodes c.args.node c.index.result.now.start c.args.place c.self.invariant (nodes-seen c.self.inside.cells.items c.self.inside.kids.items c.args.self.now c.self.view_is) c.requires.inside start c.requires.place, c.self.inside.kids.ok.0)

pub returns-clause-kid : goal.returns-clause-kid
returns-clause-kid c =
    let within : c.args.node < length c.self.inside.cells.items = omega (arith, cells-nodes c.self.inside.cells.items c.self.inside.kids.items c.args.self.now c.self.view_is) in
    let start = cell-start c.self.inside.cells.items c.args.node c.index.result.now within c.index.ensures in
    (seen-kid (labels_in c.self.inside.cells.items) (starts_in c.self.inside.cells.items) c.self.inside.kids.items c.args.self.now.nodes c.args.node c.index.result.now.start c.args.place c.index-2.result.now c.self.invariant (nodes-seen c.self.inside.cells.items c.self.inside.kids.items c.args.self.now c.self.view_is) c.requires.inside start c.requires.place c.index-2.ensures).0

pub returns-clause-kid_in : goal.returns-clause-kid_in
returns-clause-kid_in c =
    let within : c.args.node < length c.self.inside.cells.items = omega (arith, cells-nodes c.self.inside.cells.items c.self.inside.kids.items c.args.self.now c.self.view_is) in
    let start = cell-start c.self.inside.cells.items c.args.node c.index.result.now within c.index.ensures in
    (seen-kid (labels_in c.self.inside.cells.items) (starts_in c.self.inside.cells.items) c.self.inside.kids.items c.args.self.now.nodes c.args.node c.index.result.now.start c.args.place c.index-2.result.now c.self.invariant (nodes-seen c.self.inside.cells.items c.self.inside.kids.items c.args.self.now c.self.view_is) c.requires.inside start c.requires.place c.index-2.ensures).1
