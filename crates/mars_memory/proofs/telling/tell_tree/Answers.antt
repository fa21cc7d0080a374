use Rattle.std.proofs.Common.{[], ◌∷◌}
use Rattle.std.proofs.lemmas.Result.{IfOk-weaker}
use Rattle.mars_answer.specs.Answer.{IsAnswerGraph}
use Rattle.mars_memory.specs.Found.{IsToldTree}
use Rattle.mars_memory.proofs.Calls.{call-inside}
use Rattle.mars_memory.proofs.Told.{tree-told}
use Rattle.mars_memory.proofs.telling.tell_tree.Goals as goal

pub argument-kid-requires-clause-node : goal.argument-kid-requires-clause-node
argument-kid-requires-clause-node c = call-inside _ _ _ c.requires.held

pub returns : goal.returns
returns c =
    IfOk-weaker c.tree_at.result (IsAnswerGraph c.args.memory.now.system (c.argument-kid.result ∷ [])) (IsToldTree c.args.memory.now c.args.node c.args.rest)
    (tree-told c.args.memory.now c.args.node c.args.rest c.argument-kid.result c.requires.label c.argument-kid.ensures.kid) c.tree_at.ensures
