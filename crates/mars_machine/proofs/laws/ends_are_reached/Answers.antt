use Rattle.mars_machine.proofs.Ends.{ends_without_alternatives, stops_at_budget}
use Rattle.mars_machine.proofs.laws.ends_are_reached.Goals as goal

pub returns-clause-end : goal.returns-clause-end
returns-clause-end c = ends_without_alternatives

pub returns-clause-stop : goal.returns-clause-stop
returns-clause-stop c = stops_at_budget
