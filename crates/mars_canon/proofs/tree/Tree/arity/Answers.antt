use Rattle.std.proofs.Common.{arith, ◌∙◌}
use Rattle.mars_canon.proofs.Plain.{plain-length, plain-arity}
use Rattle.mars_canon.proofs.tree.Tree.arity.Goals as goal

pub index-requires : goal.index-requires
index-requires c = omega (arith, plain-length c.self.inside.labels.items c.self.inside.kids.items c.args.self.now c.self.view_is, c.self.inside.labels.ok.0)

pub returns : goal.returns
returns c = c.arity.ensures ∙ plain-arity c.self.inside.labels.items c.self.inside.kids.items c.args.self.now c.self.view_is c.self.inside.starts.items c.args.node c.index.result.now c.self.invariant.laid c.requires c.index.ensures
