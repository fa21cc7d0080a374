use Rattle.mars_children.proofs.Offspring.{children_exist}
use Rattle.mars_children.proofs.laws.children_exist.Goals as goal

pub returns : goal.returns
returns c = λ parent s vars call node difs frozen d others height rules are. children_exist parent s vars call node difs frozen d others height rules are
