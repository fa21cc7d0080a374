use Rattle.std.proofs.lemmas.Result.{IfOk-weaker}
use Rattle.mars_memory.specs.Found.{IsAlternativeSettled}
use Rattle.mars_memory.specs.BuiltInsInside.{IsMadeEqual}
use Rattle.mars_memory.proofs.Equalled.{pair-written, made-equal, made-apart}
use Rattle.mars_memory.proofs.built_ins.make_equal.Goals as goal

pub settle-requires : goal.settle-requires
settle-requires c =
    pair-written c.args.memory.now c.unify.new.self c.args.rest c.args.left c.args.right c.in-Yes.bound c.requires c.unify.ensures.others c.unify.ensures.system
    (rw c.in-Yes.is at c.in_ok-unify.ensures.solved) (rw c.in-Yes.is at c.in_ok-unify.ensures.extends)

pub returns-in-No : goal.returns-in-No
returns-in-No c =
    made-apart c.args.memory.now c.unify.new.self c.args.rest c.args.left c.args.right (rw c.in-No.is at c.in_ok-unify.ensures.kept) (rw c.in-No.is at c.in_ok-unify.ensures.apart)

pub returns-in-Yes : goal.returns-in-Yes
returns-in-Yes c =
    IfOk-weaker c.settle.result (IsAlternativeSettled c.unify.new.self c.args.rest c.settle.new.memory) (IsMadeEqual c.args.memory.now c.args.rest c.args.left c.args.right c.settle.new.memory)
    (made-equal c.args.memory.now c.unify.new.self c.args.rest c.args.left c.args.right c.in-Yes.bound c.unify.ensures.others c.unify.ensures.system
    (rw c.in-Yes.is at c.in_ok-unify.ensures.solved) (rw c.in-Yes.is at c.in_ok-unify.ensures.extends) c.settle.new.memory)
    c.settle.ensures
