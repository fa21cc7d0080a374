use Rattle.mars_replay.proofs.RunsWhole.{world_follows_events}
use Rattle.mars_replay.proofs.laws.world_follows_events.Goals as goal

pub returns : goal.returns
returns c = world_follows_events
