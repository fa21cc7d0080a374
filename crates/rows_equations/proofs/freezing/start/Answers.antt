use Rattle.std.proofs.Common.{subst, sym}
use Rattle.mars_frozen.specs.Freezing.{CanWake}
use Rattle.mars_frozen.proofs.CallerLemmas.{frozen_starts}
use Rattle.rows_equations.proofs.freezing.start.Goals as goal

pub returns : goal.returns
returns c = subst (λ f. CanWake f c.args.store) (sym c.new.ensures) (frozen_starts c.args.store)
