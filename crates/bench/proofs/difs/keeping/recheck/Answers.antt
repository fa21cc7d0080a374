use Rattle.bench.proofs.Serving.{serves-tried}
use Rattle.bench.proofs.difs.keeping.recheck.Goals as goal

pub returns-clause-serves : goal.returns-clause-serves
returns-clause-serves c =
    serves-tried c.recheck.result c.args.difs.now c.recheck.new.self c.args.store.now c.recheck.new.store c.requires c.recheck.ensures.store c.recheck.ensures.current c.recheck.ensures.err
