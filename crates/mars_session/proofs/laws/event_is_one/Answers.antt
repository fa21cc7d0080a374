use Rattle.mars_session.proofs.Points.{next_one}
use Rattle.mars_session.proofs.laws.event_is_one.Goals as goal

pub returns : goal.returns
returns c = next_one
