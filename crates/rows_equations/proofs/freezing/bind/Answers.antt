use Rattle.mars_frozen.proofs.CallerLemmas.{frozen_grows, later-all}
use Rattle.rows_equations.proofs.freezing.bind.Goals as goal

pub returns-clause-ready : goal.returns-clause-ready
returns-clause-ready c = frozen_grows c.args.world.now.frozen c.args.world.now.store c.bind_free.new.store c.bind_free.ensures c.requires

pub returns-clause-later : goal.returns-clause-later
returns-clause-later c = later-all c.args.world.now.frozen
