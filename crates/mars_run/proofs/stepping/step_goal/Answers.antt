use Rattle.std.proofs.lemmas.Result.{IfOk-weaker}
use Rattle.mars_run.proofs.Going.{goal-held, call-goes, cut-goes}
use Rattle.mars_run.proofs.stepping.step_goal.Goals as goal

pub step_call-requires-clause-held : goal.step_call-requires-clause-held
step_call-requires-clause-held c =
    goal-held c.args.rules.now.rules c.args.memory.now c.args.points.now c.args.goal c.in-Call.node c.args.rest c.in-Call.is c.requires.goal

pub returns-in-Cut : goal.returns-in-Cut
returns-in-Cut c =
    cut-goes c.args.rules.now c.args.memory.now c.args.points.now c.args.goal c.in-Cut.kept c.args.rest c.cut.new.self c.in-Cut.is c.requires.goal.inside c.cut.ensures

pub returns-in-Call : goal.returns-in-Call
returns-in-Call c =
    IfOk-weaker c.step_call.result _ _
    (λ step called. call-goes c.args.rules.now c.args.memory.now c.args.points.now c.args.goal c.in-Call.node c.args.rest step.0 c.step_call.new.memory c.step_call.new.points step.1
    c.in-Call.is c.requires.goal.inside called)
    c.step_call.ensures
