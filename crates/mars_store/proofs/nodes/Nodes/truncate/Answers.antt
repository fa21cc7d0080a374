use Rattle.std.proofs.Common.{◌<◌, length, arith, sym}
use Rattle.std.proofs.lemmas.List.{take_all}
use Rattle.mars_store.proofs.Celled.{cells-nodes, cells-links, cells-cut, same-linked}
use Rattle.mars_store.proofs.nodes.Nodes.truncate.Goals as goal

pub invariant_of-self : goal.invariant_of-self
invariant_of-self c =
    let within : c.args.len < length c.self.inside.cells.items = omega (arith, c.self.inside.cells.ok.0) in
    (cells-cut c.self.inside.cells.items _ c.self.inside.kids.items _ c.args.self.now c.args.len c.index.result.now c.self.invariant c.self.view_is within c.requires.graph c.index.ensures
    c.truncate.ensures.items c.truncate-then-len.ensures.items).0

pub returns-then-len : goal.returns-then-len
returns-then-len c =
    let within : c.args.len < length c.self.inside.cells.items = omega (arith, c.self.inside.cells.ok.0) in
    (cells-cut c.self.inside.cells.items _ c.self.inside.kids.items _ c.args.self.now c.args.len c.index.result.now c.self.invariant c.self.view_is within c.requires.graph c.index.ensures
    c.truncate.ensures.items c.truncate-then-len.ensures.items).1

pub returns-else-len : goal.returns-else-len
returns-else-len c =
    same-linked c.args.self.now _ (sym (take_all c.args.len c.args.self.now.nodes (omega (arith, cells-nodes c.self.inside.cells.items c.self.inside.kids.items c.args.self.now c.self.view_is, c.self.inside.cells.ok.0))))
    (sym (take_all c.args.len c.args.self.now.links (omega (arith, cells-links c.self.inside.cells.items c.self.inside.kids.items c.args.self.now c.self.view_is, c.self.inside.cells.ok.0))))
