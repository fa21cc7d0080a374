use Rattle.std.proofs.Common.{subst}
use Rattle.mars_dif.specs.Told.{IsTold}
use Rattle.mars_memory.proofs.Calls.{call-inside}
use Rattle.mars_memory.proofs.BuiltIns.{dif-fails, dif-goes}
use Rattle.mars_memory.proofs.built_ins.call_dif.Goals as goal

pub argument-left-requires-clause-node : goal.argument-left-requires-clause-node
argument-left-requires-clause-node c = call-inside _ _ _ c.requires.held

pub argument-right-requires-clause-node : goal.argument-right-requires-clause-node
argument-right-requires-clause-node c = call-inside _ _ _ c.requires.held

pub returns-in-Fails : goal.returns-in-Fails
returns-in-Fails c =
    dif-fails c.args.memory.now c.args.node c.args.rest c.argument-left.result c.argument-right.result c.requires.held c.requires.label c.argument-left.ensures.kid c.argument-right.ensures.kid
    (subst (λ told. IsTold told c.args.memory.now.system c.argument-left.result c.argument-right.result) c.in-Fails.is c.in_ok-keep_apart.ensures.told) c.keep_apart.new.self c.keep_apart.ensures.others c.keep_apart.ensures.after

pub returns-in_default : goal.returns-in_default
returns-in_default c =
    dif-goes c.args.memory.now c.args.node c.args.rest c.argument-left.result c.argument-right.result c.requires.held c.requires.label c.argument-left.ensures.kid c.argument-right.ensures.kid
    c.in_ok-keep_apart.field-0 c.in_default.not-Fails c.in_ok-keep_apart.ensures.told c.keep_apart.new.self c.keep_apart.ensures.others c.keep_apart.ensures.after c.in_ok-keep_apart.ensures.current
