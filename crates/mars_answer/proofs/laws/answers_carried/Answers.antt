use Rattle.mars_answer.proofs.Carried.{answer_carried, alike_known, node_alike}
use Rattle.mars_answer.proofs.laws.answers_carried.Goals as goal

pub returns-clause-carried : goal.returns-clause-carried
returns-clause-carried c = answer_carried

pub returns-clause-known : goal.returns-clause-known
returns-clause-known c = alike_known

pub returns-clause-node : goal.returns-clause-node
returns-clause-node c = node_alike
