use Rattle.mars_memory.proofs.BuiltIns.{out-done}
use Rattle.mars_memory.proofs.built_ins.call_out.Goals as goal

pub returns : goal.returns
returns c = out-done c.args.memory.now c.args.node c.args.rest c.requires.held
