use Rattle.bench.proofs.Serving.{serves-grown, grows-equated}
use Rattle.bench.proofs.difs.keeping.equate.Goals as goal

pub returns-clause-serves : goal.returns-clause-serves
returns-clause-serves c =
    serves-grown c.args.difs.now c.args.store.now c.unify.new.store c.requires.serves (grows-equated c.unify.result c.args.store.now c.unify.new.store c.unify.ensures.extends c.unify.ensures.kept c.unify.ensures.err)

pub returns-clause-grows : goal.returns-clause-grows
returns-clause-grows c = grows-equated c.unify.result c.args.store.now c.unify.new.store c.unify.ensures.extends c.unify.ensures.kept c.unify.ensures.err
