use Rattle.mars_memory.proofs.Calls.{call-inside}
use Rattle.mars_memory.proofs.BuiltIns.{text-done, text-none}
use Rattle.mars_memory.proofs.built_ins.call_out_text.Goals as goal

pub argument-kid-requires-clause-node : goal.argument-kid-requires-clause-node
argument-kid-requires-clause-node c = call-inside _ _ _ c.requires.held

pub returns-in-Some : goal.returns-in-Some
returns-in-Some c = text-done c.args.memory.now c.args.node c.args.rest c.argument-kid.result c.requires.held c.argument-kid.ensures.kid c.requires.label c.in-Some.field-0 c.in-Some.ensures

pub returns-in-None : goal.returns-in-None
returns-in-None c = text-none c.args.memory.now c.args.node c.args.rest c.argument-kid.result c.requires.held c.argument-kid.ensures.kid c.requires.label c.in-None.ensures
