use Rattle.std.proofs.Common.{sym, subst}
use Rattle.std.proofs.lemmas.Result.{on_ok_weaker}
use Rattle.mars_frozen.specs.Freezing.{CanWake}
use Rattle.mars_frozen.proofs.CallerLemmas.{frozen_adds}
use Rattle.rows_equations.proofs.freezing.freeze.Goals as goal

pub returns-clause-ready : goal.returns-clause-ready
returns-clause-ready c =
    on_ok_weaker c.add.result (λ e. subst (λ f. CanWake f c.args.world.now.store) (sym e)
    (frozen_adds c.args.world.now.frozen c.args.world.now.store (c.args.left, c.args.right) c.requires.ready (c.requires.left, c.requires.right))) c.add.ensures.ok
