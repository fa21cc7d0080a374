use Rattle.std.proofs.Common.{◌≡◌, ◌≢◌, ◌+◌, ◌≤◌, refl, sym, subst, ap, ◌∙◌, arith}
use Rattle.mars_machine.specs.Machines.{stepped_machine}
use Rattle.mars_run.specs.Asking.{at_steps, IsAsking, answers_after}
use Rattle.mars_run.proofs.Asked.{asking-starts, asking-next, steps-rise, steps-below, stepped-same}
use Rattle.mars_run.proofs.machine.Machine.run.Goals as goal

pub steps-init : goal.steps-init
steps-init c = record {
  same = refl;
  asking = subst (IsAsking c.args.self.now c.args.budget c.args.most 0) (sym c.new-said.ensures) (asking-starts c.args.self.now c.args.budget c.args.most c.requires.fresh);
}

pub step-requires : goal.step-requires
step-requires c =
    let a = c.steps.invariant.asking in
    let n : c.steps.self.steps ≢ c.args.budget = steps-below c.steps.self c.args.budget c.args.most c.steps.answers c.steps.said a c.in_default.ensures in
    let w : c.steps.self.steps ≤ c.args.budget = a.within in
    omega (arith, c.ranges.budget)

pub keep-requires : goal.keep-requires
keep-requires c =
    let a = c.steps.invariant.asking in
    let n : c.steps.self.steps ≢ c.args.budget = steps-below c.steps.self c.args.budget c.args.most c.steps.answers c.steps.said a c.in_default.ensures in
    let w : c.steps.self.steps ≤ c.args.budget = a.within in
    let f : c.steps.answers ≤ c.steps.self.steps = a.few in
    omega (arith, c.ranges.budget)

pub steps-smaller : goal.steps-smaller
steps-smaller c =
    let a = c.steps.invariant.asking in
    let n : c.steps.self.steps ≢ c.args.budget = steps-below c.steps.self c.args.budget c.args.most c.steps.answers c.steps.said a c.in_default.ensures in
    let w : c.steps.self.steps ≤ c.args.budget = a.within in
    let rise : c.step.new.self.steps ≡ c.steps.self.steps + 1 =
    ap (λ s. s.steps) c.in_ok-stepped.ensures.new ∙ steps-rise c.steps.self c.args.budget c.args.most c.steps.answers c.steps.said a c.in_default.ensures c.in_ok-stepped.stepped c.in_ok-stepped.ensures.told in
    omega arith

pub steps-preserved : goal.steps-preserved
steps-preserved c =
    let stepped = c.in_ok-stepped.stepped in
    let old = c.steps.self in
    let next = asking-next old c.args.budget c.args.most c.steps.answers c.steps.said c.steps.invariant.asking c.in_default.ensures stepped c.in_ok-stepped.ensures.told in
    let new = c.in_ok-stepped.ensures.new in
    record {
      same = subst (λ s. s ≡ at_steps c.args.self.now s.steps) (sym new) (stepped-same c.args.self.now old stepped c.steps.invariant.same);
      asking = subst (λ s. IsAsking s c.args.budget c.args.most c.in_ok-answers.answers c.keep.new.said) (sym new)
          (subst (λ n. IsAsking (stepped_machine old stepped) c.args.budget c.args.most n c.keep.new.said) (sym c.in_ok-answers.ensures.answers)
          (subst (λ told. IsAsking (stepped_machine old stepped) c.args.budget c.args.most (answers_after c.steps.answers stepped) told) (sym c.in_ok-answers.ensures.said) next));
    }
