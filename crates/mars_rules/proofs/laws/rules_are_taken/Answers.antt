use Rattle.mars_rules.proofs.Taken.{matched-taken, built-nodes, refused-never}
use Rattle.mars_rules.proofs.laws.rules_are_taken.Goals as goal

pub returns : goal.returns
returns c = record { taken = matched-taken; nodes = built-nodes; refused = refused-never }
