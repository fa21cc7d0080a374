use Rattle.mars_machine.proofs.Telling.{answer_once, open_once, left_once, asked_once}
use Rattle.mars_machine.proofs.laws.telling_is_one.Goals as goal

pub returns-clause-answer : goal.returns-clause-answer
returns-clause-answer c = answer_once

pub returns-clause-differ : goal.returns-clause-differ
returns-clause-differ c = open_once

pub returns-clause-left : goal.returns-clause-left
returns-clause-left c = left_once

pub returns-clause-asked : goal.returns-clause-asked
returns-clause-asked c = asked_once
