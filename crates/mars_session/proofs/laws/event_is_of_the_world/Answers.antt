use Rattle.mars_session.proofs.Happenings.{event_is_of_the_world}
use Rattle.mars_session.proofs.laws.event_is_of_the_world.Goals as goal

pub returns : goal.returns
returns c = event_is_of_the_world
