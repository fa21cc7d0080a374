use Rattle.bench.proofs.Serving.{serves-differed}
use Rattle.bench.proofs.difs.keeping.differ.Goals as goal

pub returns-clause-serves : goal.returns-clause-serves
returns-clause-serves c =
    serves-differed c.add.result c.args.difs.now c.add.new.self c.args.store.now c.add.new.store (c.args.a, c.args.b) c.requires.serves c.add.ensures.store c.add.ensures.current c.add.ensures.err
