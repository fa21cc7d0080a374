use Rattle.mars_table.proofs.HistoryLemmas.{legal_is_sound}
use Rattle.mars_table.proofs.laws.legal_is_sound.Goals as goal

pub returns : goal.returns
returns c = legal_is_sound
