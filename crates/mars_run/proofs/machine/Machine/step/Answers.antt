use Rattle.std.proofs.Common.{◌≡◌, ◌+◌, subst, false}
use Rattle.mars_machine.specs.Machines.{IsMachineStep, stepped_machine}
use Rattle.mars_run.specs.Stepping.{IsStepMade}
use Rattle.mars_run.proofs.Reaching.{seen-of, reached-next, step-told, step-counted}
use Rattle.mars_run.proofs.machine.Machine.step.Goals as goal

pub invariant_of-self-in-Some : goal.invariant_of-self-in-Some
invariant_of-self-in-Some c =
    let m = c.self.inside in
    let does = subst (λ asked. IsStepMade asked m.rules.now m.memory m.points c.in-Some.list c.in_ok-stepped-in-Some.stepped c.step_on.new.memory c.step_on.new.points c.in_ok-stepped-in-Some.present)
    c.deref.ensures.value c.in_ok-stepped-in-Some.ensures in
    record {
      rules_are = c.self.invariant.rules_are;
      one_each = c.self.invariant.one_each;
      reached = λ same. reached-next m.rules.now m.ask m.kept.items m.steps m.asked.items m.memory m.points m.present c.in-Some.list
          c.self.invariant.one_each (c.self.invariant.reached c.if-self.false) c.in-Some.is c.in_ok-stepped-in-Some.stepped c.step_on.new.memory c.step_on.new.points c.in_ok-stepped-in-Some.present does;
    }

pub returns-in_ok-stepped-in-Some-clause-told : goal.returns-in_ok-stepped-in-Some-clause-told
returns-in_ok-stepped-in-Some-clause-told c =
    let m = c.self.inside in
    let does = subst (λ asked. IsStepMade asked m.rules.now m.memory m.points c.in-Some.list c.in_ok-stepped-in-Some.stepped c.step_on.new.memory c.step_on.new.points c.in_ok-stepped-in-Some.present)
    c.deref.ensures.value c.in_ok-stepped-in-Some.ensures in
    subst (λ s. IsMachineStep s c.in_ok-stepped-in-Some.stepped) c.self.view_is
    (step-told m.rules.now m.ask m.kept.items m.steps m.asked.items m.memory m.points m.present c.in-Some.list
    c.self.invariant.one_each (c.self.invariant.reached c.if-self.false) c.in-Some.is c.in_ok-stepped-in-Some.stepped c.step_on.new.memory c.step_on.new.points c.in_ok-stepped-in-Some.present does m.broken)

pub returns-in_ok-stepped-in-Some-clause-new : goal.returns-in_ok-stepped-in-Some-clause-new
returns-in_ok-stepped-in-Some-clause-new c =
    let m = c.self.inside in
    let does = subst (λ asked. IsStepMade asked m.rules.now m.memory m.points c.in-Some.list c.in_ok-stepped-in-Some.stepped c.step_on.new.memory c.step_on.new.points c.in_ok-stepped-in-Some.present)
    c.deref.ensures.value c.in_ok-stepped-in-Some.ensures in
    subst (λ s. seen-of m.rules.now m.ask m.kept.items (m.steps + 1) false ≡ stepped_machine s c.in_ok-stepped-in-Some.stepped) c.self.view_is
    (step-counted m.rules.now m.ask m.kept.items m.steps m.asked.items m.memory m.points m.present c.in-Some.list
    c.self.invariant.one_each (c.self.invariant.reached c.if-self.false) c.in-Some.is c.in_ok-stepped-in-Some.stepped c.step_on.new.memory c.step_on.new.points c.in_ok-stepped-in-Some.present does m.broken c.if-self.false)
