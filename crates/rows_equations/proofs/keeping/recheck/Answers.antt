use Rattle.rows_equations.proofs.Serving.{serves-tried, keeper-after}
use Rattle.rows_equations.proofs.keeping.recheck.Goals as goal

pub returns-clause-serves : goal.returns-clause-serves
returns-clause-serves c =
    serves-tried c.recheck.result c.args.difs.now c.recheck.new.self c.args.store.now c.recheck.new.store c.requires c.recheck.ensures.store c.recheck.ensures.current c.recheck.ensures.err

pub returns-clause-lasts : goal.returns-clause-lasts
returns-clause-lasts c = keeper-after c.args.difs.now c.recheck.new.self c.recheck.ensures.after
