use Rattle.mars_table.proofs.HistoryLemmas.{next_is_bounded}
use Rattle.mars_table.proofs.laws.next_is_bounded.Goals as goal

pub returns : goal.returns
returns c = next_is_bounded
