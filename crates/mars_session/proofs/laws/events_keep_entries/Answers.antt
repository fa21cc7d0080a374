use Rattle.mars_session.proofs.TogetherLemmas.{events_keep_entries}
use Rattle.mars_session.proofs.laws.events_keep_entries.Goals as goal

pub returns : goal.returns
returns c = events_keep_entries
