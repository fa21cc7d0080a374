use Rattle.mars_replay.proofs.Growing.{world_texts_grow}
use Rattle.mars_replay.proofs.laws.world_texts_grow.Goals as goal

pub returns : goal.returns
returns c = world_texts_grow
