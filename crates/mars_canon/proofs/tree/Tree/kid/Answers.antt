use Rattle.std.proofs.Common.{◌≡◌, ◌<◌, ◌∙◌, ℕ, List, length, get_or, arith}
use Rattle.std.proofs.lemmas.List.{get_or_default}
use Rattle.mars_tree.proofs.Laid.{seen-length, seen-within, seen-kid, starts-length}
use Rattle.mars_canon.specs.TreeInside.{labels_of}
use Rattle.mars_canon.proofs.tree.Tree.kid.Goals as goal

pub get-requires : goal.get-requires
get-requires c = omega (arith, seen-length (labels_of c.self.inside) c.self.inside.kids.items c.args.self.now c.self.view_is, starts-length (labels_of c.self.inside) c.self.inside.starts.items c.self.inside.kids.items c.self.invariant.laid)

-- where the kids start, as it is read from the starts
start_read : (starts : List ℕ) (node start : ℕ) → node < length starts → start ≡ get_or starts node 0 → start ≡ get_or starts node start
start_read starts node start h e = e ∙ get_or_default starts node 0 start h

pub overflow_add-get : goal.overflow_add-get
overflow_add-get c = omega (arith, seen-within (labels_of c.self.inside) c.self.inside.starts.items c.self.inside.kids.items c.args.self.now c.args.node c.get.result c.args.place c.self.invariant.laid c.self.view_is c.requires.node_in (start_read c.self.inside.starts.items c.args.node c.get.result (omega (arith, seen-length (labels_of c.self.inside) c.self.inside.kids.items c.args.self.now c.self.view_is, starts-length (labels_of c.self.inside) c.self.inside.starts.items c.self.inside.kids.items c.self.invariant.laid)) c.get.ensures) c.requires.place_in, c.self.inside.kids.ok.0)

pub index-requires : goal.index-requires
index-requires c = omega (arith, seen-within (labels_of c.self.inside) c.self.inside.starts.items c.self.inside.kids.items c.args.self.now c.args.node c.get.result c.args.place c.self.invariant.laid c.self.view_is c.requires.node_in (start_read c.self.inside.starts.items c.args.node c.get.result (omega (arith, seen-length (labels_of c.self.inside) c.self.inside.kids.items c.args.self.now c.self.view_is, starts-length (labels_of c.self.inside) c.self.inside.starts.items c.self.inside.kids.items c.self.invariant.laid)) c.get.ensures) c.requires.place_in, c.self.inside.kids.ok.0)

pub returns-clause-kid : goal.returns-clause-kid
returns-clause-kid c = (seen-kid (labels_of c.self.inside) c.self.inside.starts.items c.self.inside.kids.items c.args.self.now c.args.node c.get.result c.args.place c.index.result.now c.self.invariant.laid c.self.view_is c.requires.node_in (start_read c.self.inside.starts.items c.args.node c.get.result (omega (arith, seen-length (labels_of c.self.inside) c.self.inside.kids.items c.args.self.now c.self.view_is, starts-length (labels_of c.self.inside) c.self.inside.starts.items c.self.inside.kids.items c.self.invariant.laid)) c.get.ensures) c.requires.place_in c.index.ensures).0

pub returns-clause-kid_in : goal.returns-clause-kid_in
returns-clause-kid_in c = (seen-kid (labels_of c.self.inside) c.self.inside.starts.items c.self.inside.kids.items c.args.self.now c.args.node c.get.result c.args.place c.index.result.now c.self.invariant.laid c.self.view_is c.requires.node_in (start_read c.self.inside.starts.items c.args.node c.get.result (omega (arith, seen-length (labels_of c.self.inside) c.self.inside.kids.items c.args.self.now c.self.view_is, starts-length (labels_of c.self.inside) c.self.inside.starts.items c.self.inside.kids.items c.self.invariant.laid)) c.get.ensures) c.requires.place_in c.index.ensures).1
