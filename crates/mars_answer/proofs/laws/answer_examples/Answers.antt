use Rattle.mars_answer.proofs.Applied.{answer_examples}
use Rattle.mars_answer.proofs.laws.answer_examples.Goals as goal

pub returns : goal.returns
returns c = answer_examples
