use Rattle.mars_session.proofs.AskTexts.{texts_grow}
use Rattle.mars_session.proofs.laws.texts_grow.Goals as goal

pub returns : goal.returns
returns c = texts_grow
