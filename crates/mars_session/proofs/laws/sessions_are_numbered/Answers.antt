use Rattle.mars_session.proofs.Numbering.{parts_are_numbered}
use Rattle.mars_session.proofs.laws.sessions_are_numbered.Goals as goal

pub returns : goal.returns
returns c = parts_are_numbered
