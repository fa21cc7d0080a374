use Rattle.std.proofs.lemmas.Result.{IfOk-weaker}
use Rattle.mars_machine.specs.declared.built_in.BuiltIn.TheVariants.{Eq}
use Rattle.mars_memory.specs.Found.{IsBuiltInDone}
use Rattle.mars_memory.specs.BuiltInsInside.{IsMadeEqual}
use Rattle.mars_memory.proofs.Calls.{call-inside}
use Rattle.mars_memory.proofs.Equalled.{equal-has, equal-done}
use Rattle.mars_memory.proofs.built_ins.call_eq.Goals as goal

pub argument-left-requires-clause-node : goal.argument-left-requires-clause-node
argument-left-requires-clause-node c = call-inside _ _ _ c.requires.held

pub argument-right-requires-clause-node : goal.argument-right-requires-clause-node
argument-right-requires-clause-node c = call-inside _ _ _ c.requires.held

pub make_equal-requires : goal.make_equal-requires
make_equal-requires c =
    equal-has c.args.memory.now c.args.node c.args.rest c.argument-left.result c.argument-right.result c.requires.label c.argument-left.ensures.kid c.argument-right.ensures.kid c.requires.held

pub returns : goal.returns
returns c =
    IfOk-weaker c.make_equal.result (IsMadeEqual c.args.memory.now c.args.rest c.argument-left.result c.argument-right.result c.make_equal.new.memory) (IsBuiltInDone c.args.memory.now c.args.node c.args.rest Eq c.make_equal.new.memory)
    (equal-done c.args.memory.now c.args.node c.args.rest c.argument-left.result c.argument-right.result c.requires.label c.argument-left.ensures.kid c.argument-right.ensures.kid c.make_equal.new.memory)
    c.make_equal.ensures
