use Rattle.mars_bridge.proofs.Answered.{answer_denoted, roots_denoted}
use Rattle.mars_bridge.proofs.Parts.{variable_denoted}
use Rattle.mars_bridge.proofs.laws.answers_denoted.Goals as goal

pub returns-clause-answer : goal.returns-clause-answer
returns-clause-answer c = answer_denoted

pub returns-clause-variables : goal.returns-clause-variables
returns-clause-variables c = variable_denoted

pub returns-clause-roots : goal.returns-clause-roots
returns-clause-roots c = roots_denoted
