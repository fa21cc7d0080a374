use Rattle.mars_memory.proofs.Calls.{call-inside}
use Rattle.mars_memory.proofs.Told.{text-told}
use Rattle.mars_memory.proofs.telling.tell_text.Goals as goal

pub argument-kid-requires-clause-node : goal.argument-kid-requires-clause-node
argument-kid-requires-clause-node c = call-inside _ _ _ c.requires.held

pub returns : goal.returns
returns c = text-told c.args.memory.now c.args.node c.args.rest c.argument-kid.result c.requires.label c.argument-kid.ensures.kid c.string_at.result c.string_at.ensures
