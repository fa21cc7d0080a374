use Rattle.rows_equations.proofs.Serving.{serves-grown, store-grows}
use Rattle.rows_equations.proofs.keeping.bind.Goals as goal

pub returns-clause-serves : goal.returns-clause-serves
returns-clause-serves c = serves-grown c.args.difs.now c.args.store.now c.bind_free.new.store c.requires.serves c.bind_free.ensures

pub returns-clause-lasts : goal.returns-clause-lasts
returns-clause-lasts c = store-grows c.args.store.now c.bind_free.new.store c.bind_free.ensures
