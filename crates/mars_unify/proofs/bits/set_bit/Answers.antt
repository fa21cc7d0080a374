use Rattle.std.proofs.Common.{rules, arith}
use Rattle.mars_unify.proofs.Blocks.{bits-written}
use Rattle.mars_unify.proofs.bits.set_bit.Goals as goal

pub returns-clause-ok : goal.returns-clause-ok
returns-clause-ok c = bits-written c.args.words.now c.set_at.new.words c.args.pair c.set_at.result (omega (arith, c.number-x.type_inv, c.number-x.ensures), omega (arith, c.number-y.type_inv, c.number-y.ensures)) (search rules)
