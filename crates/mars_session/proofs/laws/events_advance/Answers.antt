use Rattle.mars_session.proofs.AskTexts.{events_advance}
use Rattle.mars_session.proofs.laws.events_advance.Goals as goal

pub returns : goal.returns
returns c = events_advance
