use Rattle.std.proofs.Common.{◌≡◌, ℕ, Option, Some, nat_eq, eq-eqb, false, refl, sym, ap, ◌∙◌, subst}
use Rattle.std.specs.Option.{option_eq}
use Rattle.std.proofs.lemmas.Bool.{false≢true}
use Rattle.mars_machine.specs.Machines.{TellsLeft}
use Rattle.mars_run.proofs.Asked.{ends-empty, ends-stopped, goes-on-here}
use Rattle.mars_run.proofs.machine.Machine.ending.Goals as goal

-- the test that so many answers came said no
not-same : (most : Option ℕ) (n : ℕ) → false ≡ option_eq nat_eq most (Some n) → most ≡ Some n → ⊥
not-same most n h e = false≢true (h ∙ ap (λ o. option_eq nat_eq o (Some n)) e ∙ eq-eqb n n refl)

pub returns-then-not-left : goal.returns-then-not-left
returns-then-not-left c =
    ends-empty c.args.self.now c.args.budget c.args.most c.args.answers (not-same c.args.most c.args.answers c.if-eq.ensures)
    (subst (TellsLeft c.args.self.now) c.if-not-left.true (c.left.ensures c.requires))

pub returns-then-steps-budget : goal.returns-then-steps-budget
returns-then-steps-budget c =
    ends-stopped c.args.self.now c.args.budget c.args.most c.args.answers (not-same c.args.most c.args.answers c.if-eq.ensures)
    (subst (TellsLeft c.args.self.now) c.if-not-left.false (c.left.ensures c.requires)) (sym c.steps.ensures ∙ c.if-steps-budget.true)

pub returns : goal.returns
returns c =
    goes-on-here c.args.self.now c.args.budget c.args.most c.args.answers (not-same c.args.most c.args.answers c.if-eq.ensures)
    (subst (TellsLeft c.args.self.now) c.if-not-left.false (c.left.ensures c.requires)) (λ e. c.if-steps-budget.false (c.steps.ensures ∙ e))
