use Rattle.std.proofs.Common.{sym, subst}
use Rattle.mars_machine.specs.declared.stepped.Stepped.TheVariants.{Went, Said, SaidText}
use Rattle.mars_run.specs.Stepping.{IsToldCall}
use Rattle.mars_run.proofs.Calling.{tree-told, text-told, no-text-told, nothing-told}
use Rattle.mars_run.proofs.saying.say.Goals as goal

pub returns-in_ok-tell_tree-in-Out : goal.returns-in_ok-tell_tree-in-Out
returns-in_ok-tell_tree-in-Out c =
    subst (λ b. IsToldCall c.args.memory.now c.args.node c.args.rest b (Said c.in_ok-tell_tree-in-Out.field-0)) (sym c.in-Out.is)
    (tree-told c.args.memory.now c.args.node c.args.rest c.in_ok-tell_tree-in-Out.field-0 c.in_ok-tell_tree-in-Out.ensures)

pub returns-in-Some : goal.returns-in-Some
returns-in-Some c =
    subst (λ b. IsToldCall c.args.memory.now c.args.node c.args.rest b (SaidText c.in-Some.string)) (sym c.in-OutText.is)
    (text-told c.args.memory.now c.args.node c.args.rest c.in-Some.string (rw c.in-Some.is at c.in_ok-string-in-OutText.ensures))

pub returns-in-None : goal.returns-in-None
returns-in-None c =
    subst (λ b. IsToldCall c.args.memory.now c.args.node c.args.rest b Went) (sym c.in-OutText.is)
    (no-text-told c.args.memory.now c.args.node c.args.rest (rw c.in-None.is at c.in_ok-string-in-OutText.ensures))

pub returns-in_default : goal.returns-in_default
returns-in_default c = nothing-told c.args.memory.now c.args.node c.args.rest c.args.built_in c.in_default.not-Out c.in_default.not-OutText
