use Rattle.mars_table.proofs.CallLemmas.{calls_keep_sound}
use Rattle.mars_table.proofs.laws.calls_keep_sound.Goals as goal

pub returns : goal.returns
returns c = calls_keep_sound
