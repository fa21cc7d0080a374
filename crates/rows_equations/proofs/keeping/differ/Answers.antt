use Rattle.rows_equations.proofs.Serving.{serves-differed, keeper-after}
use Rattle.rows_equations.proofs.keeping.differ.Goals as goal

pub returns-clause-serves : goal.returns-clause-serves
returns-clause-serves c =
    serves-differed c.add.result c.args.difs.now c.add.new.self c.args.store.now c.add.new.store (c.args.a, c.args.b) c.requires.serves c.add.ensures.store c.add.ensures.current c.add.ensures.err

pub returns-clause-lasts : goal.returns-clause-lasts
returns-clause-lasts c = keeper-after c.args.difs.now c.add.new.self c.add.ensures.after
