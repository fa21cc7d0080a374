use Rattle.std.proofs.Common.{w64, rules}
use mir.Val.{SFits}
use Rattle.std.proofs.lemmas.Int.{to_z-of_z}
use Rattle.std.proofs.lemmas.Result.{IfOk-weaker}
use Rattle.mars_machine.specs.declared.built_in.BuiltIn.TheVariants.{Val}
use Rattle.mars_memory.specs.Found.{IsBuiltInDone}
use Rattle.mars_memory.specs.BuiltInsInside.{IsMadeEqual}
use Rattle.mars_memory.proofs.Calls.{call-inside}
use Rattle.mars_memory.proofs.Equalled.{val-none, val-written, val-done}
use Rattle.mars_memory.proofs.built_ins.call_val.Goals as goal

pub argument-expression-requires-clause-node : goal.argument-expression-requires-clause-node
argument-expression-requires-clause-node c = call-inside _ _ _ c.requires.held

pub argument-value-requires-clause-node : goal.argument-value-requires-clause-node
argument-value-requires-clause-node c = call-inside _ _ _ c.requires.held

pub make_equal-requires : goal.make_equal-requires
make_equal-requires c =
    let fits : SFits w64 c.in-Some.number = search rules in
    val-written c.args.memory.now c.args.node c.args.rest c.argument-expression.result c.argument-value.result c.requires.label c.argument-expression.ensures.kid c.argument-value.ensures.kid
    c.in-Some.number c.leaf.new.self c.in_ok-integer-in-Some.integer c.requires.held (rw (to_z-of_z w64 c.in-Some.number fits) at c.in_ok-integer-in-Some.ensures.ok) c.in_ok-integer-in-Some.ensures.node

pub returns-in_ok-integer-in-Some : goal.returns-in_ok-integer-in-Some
returns-in_ok-integer-in-Some c =
    let fits : SFits w64 c.in-Some.number = search rules in
    IfOk-weaker c.make_equal.result (IsMadeEqual c.leaf.new.self c.args.rest c.argument-value.result c.in_ok-integer-in-Some.integer c.make_equal.new.memory) (IsBuiltInDone c.args.memory.now c.args.node c.args.rest Val c.make_equal.new.memory)
    (val-done c.args.memory.now c.args.node c.args.rest c.argument-expression.result c.argument-value.result c.requires.label c.argument-expression.ensures.kid c.argument-value.ensures.kid
    c.in-Some.number c.leaf.new.self c.in_ok-integer-in-Some.integer (rw c.in-Some.is at c.in_ok-number.ensures) (rw (to_z-of_z w64 c.in-Some.number fits) at c.in_ok-integer-in-Some.ensures.ok) c.in_ok-integer-in-Some.ensures.node c.make_equal.new.memory)
    c.make_equal.ensures

pub returns-in-None : goal.returns-in-None
returns-in-None c = val-none c.args.memory.now c.args.node c.args.rest c.argument-expression.result c.argument-value.result c.requires.label c.argument-expression.ensures.kid c.argument-value.ensures.kid (rw c.in-None.is at c.in_ok-number.ensures)
