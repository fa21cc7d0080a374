use Rattle.std.proofs.Common.{arith}
use Rattle.mars_canon.proofs.Plain.{plain-length, plain-label}
use Rattle.mars_canon.proofs.tree.Tree.label.Goals as goal

pub index-requires : goal.index-requires
index-requires c = omega (arith, plain-length c.self.inside.labels.items c.self.inside.kids.items c.args.self.now c.self.view_is, c.self.inside.labels.ok.0)

pub returns : goal.returns
returns c = plain-label c.self.inside.labels.items c.self.inside.kids.items c.args.self.now c.self.view_is c.args.node c.index.result.now c.requires c.index.ensures
