use Rattle.mars_replay.proofs.RunsWhole.{world_run_is_whole}
use Rattle.mars_replay.proofs.laws.world_run_is_whole.Goals as goal

pub returns : goal.returns
returns c = world_run_is_whole
