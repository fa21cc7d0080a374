use Rattle.mars_memory.proofs.Calls.{call-inside}
use Rattle.mars_memory.proofs.BuiltIns.{freeze-known, freeze-unknown}
use Rattle.mars_memory.proofs.built_ins.call_freeze.Goals as goal

pub argument-on-requires-clause-node : goal.argument-on-requires-clause-node
argument-on-requires-clause-node c = call-inside _ _ _ c.requires.held

pub argument-goal-requires-clause-node : goal.argument-goal-requires-clause-node
argument-goal-requires-clause-node c = call-inside _ _ _ c.requires.held

pub returns-in_ok-call_before-in-Some : goal.returns-in_ok-call_before-in-Some
returns-in_ok-call_before-in-Some c =
    freeze-known c.args.memory.now c.args.node c.args.rest c.argument-on.result c.argument-goal.result c.requires.held c.requires.label c.argument-on.ensures.kid c.argument-goal.ensures.kid
    c.in-Some.field-0 c.in-Some.ensures c.in_ok-call_before-in-Some.field-0 c.in_ok-call_before-in-Some.ensures.list c.call_before.new.self c.in_ok-call_before-in-Some.ensures.ok

pub returns-in_ok-freeze-in-None : goal.returns-in_ok-freeze-in-None
returns-in_ok-freeze-in-None c =
    freeze-unknown c.args.memory.now c.args.node c.args.rest c.argument-on.result c.argument-goal.result c.requires.held c.requires.label c.argument-on.ensures.kid c.argument-goal.ensures.kid
    c.in-None.ensures c.freeze.new.self c.in_ok-freeze-in-None.ensures.ok c.freeze.ensures.after
