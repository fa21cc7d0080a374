use Rattle.mars_val.proofs.Numbers.{next-applied, two-kids, kids-count}
use Rattle.mars_tree.specs.Graph.{kids_of}
use Rattle.mars_store.specs.System.{resolve}
use Rattle.mars_val.proofs.operand.apply.Goals as goal

pub returns : goal.returns
returns c =
    next-applied c.args.store.now c.args.terms.now c.args.values.now c.args.node c.kid.result c.kid-2.result c.args.operation c.operand_of-left.result c.operand_of-right.result c.combine.result c.requires.numbers c.requires.label
    (two-kids (kids_of c.args.store.now.nodes (resolve c.args.store.now.bound c.args.node)) c.kid.result c.kid-2.result (kids-count c.args.store.now c.args.node c.args.operation c.mark-mark.ensures.system c.requires.label) c.kid.ensures.kid c.kid-2.ensures.kid)
    c.operand_of-left.ensures.told c.operand_of-left.ensures.last c.operand_of-right.ensures.told c.operand_of-right.ensures.last c.combine.ensures
