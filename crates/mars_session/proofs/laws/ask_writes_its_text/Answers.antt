use Rattle.mars_session.proofs.AskTexts.{ask_writes_its_text}
use Rattle.mars_session.proofs.laws.ask_writes_its_text.Goals as goal

pub returns : goal.returns
returns c = ask_writes_its_text
