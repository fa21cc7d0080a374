use Rattle.mars_unify.proofs.Lists.{index-push}
use Rattle.mars_unify.proofs.pairs.index_of.Goals as goal

pub returns : goal.returns
returns c =
    index-push c.in_ok-index.index c.set_bit.new.words c.args.pairs.now c.args.pair c.in_ok-index.ensures c.in_ok-set_bit.ensures.ok
