use Rattle.std.proofs.Common.{◌<◌, length, take, drop, arith, ap, ◌∙◌}
use Rattle.mars_tree.specs.Graph.{kids_of}
use Rattle.mars_tree.proofs.Laid.{seen-room, seen-kids}
use Rattle.mars_store.specs.CellsInside.{labels_in, starts_in}
use Rattle.mars_store.proofs.Celled.{cells-nodes, cell-start, nodes-seen}
use Rattle.mars_store.proofs.nodes.Nodes.kids.Goals as goal

pub index-requires : goal.index-requires
index-requires c = omega (arith, cells-nodes c.self.inside.cells.items c.self.inside.kids.items c.args.self.now c.self.view_is, c.self.inside.cells.ok.0)

pub part-requires : goal.part-requires
part-requires c =
    let within : c.args.node < length c.self.inside.cells.items = omega (arith, cells-nodes c.self.inside.cells.items c.self.inside.kids.items c.args.self.now c.self.view_is) in
    let start = cell-start c.self.inside.cells.items c.args.node c.index.result.now within c.index.ensures in
    omega (arith, seen-room (labels_in c.self.inside.cells.items) (starts_in c.self.inside.cells.items) c.self.inside.kids.items c.args.self.now.nodes c.args.node c.index.result.now.start c.self.invariant (nodes-seen c.self.inside.cells.items c.self.inside.kids.items c.args.self.now c.self.view_is) c.requires.inside start, c.self.inside.kids.ok.0, c.deref.ensures.len, c.requires.arity)

pub returns : goal.returns
returns c =
    let within : c.args.node < length c.self.inside.cells.items = omega (arith, cells-nodes c.self.inside.cells.items c.self.inside.kids.items c.args.self.now c.self.view_is) in
    let start = cell-start c.self.inside.cells.items c.args.node c.index.result.now within c.index.ensures in
    c.part.ensures ∙ ap (λ k. take k (drop c.index.result.now.start c.deref.result.now)) c.requires.arity ∙ ap (λ xs. take (length (kids_of c.args.self.now.nodes c.args.node)) (drop c.index.result.now.start xs)) c.deref.ensures.value
    ∙ seen-kids (labels_in c.self.inside.cells.items) (starts_in c.self.inside.cells.items) c.self.inside.kids.items c.args.self.now.nodes c.args.node c.index.result.now.start c.self.invariant (nodes-seen c.self.inside.cells.items c.self.inside.kids.items c.args.self.now c.self.view_is) c.requires.inside start
