use Rattle.mars_replay.proofs.Growing.{histories_are_legal}
use Rattle.mars_replay.proofs.laws.histories_are_legal.Goals as goal

pub returns : goal.returns
returns c = histories_are_legal
