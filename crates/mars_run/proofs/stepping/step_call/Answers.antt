use Rattle.mars_run.proofs.Unfit.{held-inside}
use Rattle.mars_run.proofs.Calling.{rules-go}
use Rattle.mars_run.proofs.stepping.step_call.Goals as goal

pub called_built_in-requires : goal.called_built_in-requires
called_built_in-requires c = held-inside c.args.memory.now c.args.node c.args.rest c.requires.held.has

pub returns-in_ok-next-in-None : goal.returns-in_ok-next-in-None
returns-in_ok-next-in-None c =
    rules-go c.args.rules.now c.args.memory.now c.args.points.now c.args.node c.args.rest c.requires.rules c.in-None.ensures
    c.call_rules.new.memory c.call_rules.new.points c.in_ok-next-in-None.next c.in_ok-next-in-None.ensures
