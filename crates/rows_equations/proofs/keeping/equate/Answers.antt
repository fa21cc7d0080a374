use Rattle.rows_equations.proofs.Serving.{serves-equated, lasts-equated}
use Rattle.rows_equations.proofs.keeping.equate.Goals as goal

pub returns-clause-serves : goal.returns-clause-serves
returns-clause-serves c =
    serves-equated c.unify.result c.args.difs.now c.args.store.now c.unify.new.store c.requires.serves c.unify.ensures.extends c.unify.ensures.kept c.unify.ensures.err

pub returns-clause-lasts : goal.returns-clause-lasts
returns-clause-lasts c = lasts-equated c.unify.result c.args.store.now c.unify.new.store c.unify.ensures.extends c.unify.ensures.kept c.unify.ensures.err
