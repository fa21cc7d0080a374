use Rattle.std.proofs.Common.{IfOk, sym, subst}
use Rattle.mars_memory.specs.Found.{IsBuiltInDone}
use Rattle.mars_memory.proofs.built_ins.call_built_in.Goals as goal

pub returns-in-Dif : goal.returns-in-Dif
returns-in-Dif c = subst (λ b. IfOk c.call_dif.result (IsBuiltInDone c.args.memory.now c.args.node c.args.rest b c.call_dif.new.memory)) (sym c.in-Dif.is) c.call_dif.ensures

pub returns-in-Freeze : goal.returns-in-Freeze
returns-in-Freeze c = subst (λ b. IfOk c.call_freeze.result (IsBuiltInDone c.args.memory.now c.args.node c.args.rest b c.call_freeze.new.memory)) (sym c.in-Freeze.is) c.call_freeze.ensures

pub returns-in-Bound : goal.returns-in-Bound
returns-in-Bound c = subst (λ b. IsBuiltInDone c.args.memory.now c.args.node c.args.rest b c.args.memory.now c.call_bound.result) (sym c.in-Bound.is) c.call_bound.ensures

pub returns-in-Free : goal.returns-in-Free
returns-in-Free c = subst (λ b. IsBuiltInDone c.args.memory.now c.args.node c.args.rest b c.args.memory.now c.call_free.result) (sym c.in-Free.is) c.call_free.ensures

pub returns-in-Out : goal.returns-in-Out
returns-in-Out c = subst (λ b. IsBuiltInDone c.args.memory.now c.args.node c.args.rest b c.args.memory.now c.call_out.result) (sym c.in-Out.is) c.call_out.ensures

pub returns-in-OutText : goal.returns-in-OutText
returns-in-OutText c = subst (λ b. IsBuiltInDone c.args.memory.now c.args.node c.args.rest b c.args.memory.now c.call_out_text.result) (sym c.in-OutText.is) c.call_out_text.ensures

pub returns-in-Eq : goal.returns-in-Eq
returns-in-Eq c = subst (λ b. IfOk c.call_eq.result (IsBuiltInDone c.args.memory.now c.args.node c.args.rest b c.call_eq.new.memory)) (sym c.in-Eq.is) c.call_eq.ensures

pub returns-in-Val : goal.returns-in-Val
returns-in-Val c = subst (λ b. IfOk c.call_val.result (IsBuiltInDone c.args.memory.now c.args.node c.args.rest b c.call_val.new.memory)) (sym c.in-Val.is) c.call_val.ensures
