use Rattle.mars_first.specs.StagesInside.{HasKidStages}
use Rattle.mars_first.proofs.stages.push_kid_stages.Given as goal

abbrev pub invariant-loop-kid : goal.invariant-loop-kid
invariant-loop-kid l = HasKidStages l.places l.from l.heads l.kid l.initial.stages.items l.stages.items
