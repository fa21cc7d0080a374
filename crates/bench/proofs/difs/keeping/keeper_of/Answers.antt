use Rattle.std.proofs.Common.{[], sym, subst}
use Rattle.mars_dif.specs.Kept.{Kept, IsKeeper}
use Rattle.mars_dif.proofs.CallerLemmas.{keeper_starts}
use Rattle.bench.proofs.difs.keeping.keeper_of.Goals as goal

pub returns : goal.returns
returns c = ([], subst (λ (k : Kept). IsKeeper k c.args.store.now []) (sym c.new.ensures) (keeper_starts c.args.store.now c.mark-mark.ensures.system))
