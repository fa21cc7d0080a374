use Rattle.mars_replay.proofs.Growing.{others_cut_none}
use Rattle.mars_replay.proofs.laws.others_cut_none.Goals as goal

pub returns : goal.returns
returns c = others_cut_none
