use Rattle.mars_read.proofs.GoalsClosed.{goals-are-asks}
use Rattle.mars_read.proofs.goals.goals_are_asks.Goals as goal

pub returns : goal.returns
returns c = goals-are-asks
