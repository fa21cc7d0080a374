use Rattle.mars_frozen.proofs.Wakes.{frozen_starts, frozen_adds, frozen_grows}
use Rattle.mars_frozen.proofs.laws.frozen_lasts.Goals as goal

pub returns-clause-starts : goal.returns-clause-starts
returns-clause-starts c = frozen_starts

pub returns-clause-adds : goal.returns-clause-adds
returns-clause-adds c = frozen_adds

pub returns-clause-grows : goal.returns-clause-grows
returns-clause-grows c = frozen_grows
