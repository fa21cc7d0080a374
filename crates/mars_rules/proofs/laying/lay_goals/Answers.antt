use Rattle.std.proofs.Common.{subst, sym, All}
use Rattle.mars_term.specs.Clauses.{parts_of_goal}
use Rattle.mars_rules.specs.LayingInside.{IsRulePart, IsLaidGoal}
use Rattle.mars_rules.proofs.RuleParts.{item-parts}
use Rattle.mars_rules.proofs.LaidRules.{goals-next}
use Rattle.mars_rules.proofs.laying.lay_goals.Goals as goal

pub lay_goal-requires-clause-parts : goal.lay_goal-requires-clause-parts
lay_goal-requires-clause-parts c =
    subst (λ g. All (IsRulePart c.args.vars) (parts_of_goal g)) (sym c.goal-item.is)
    (item-parts (IsRulePart c.args.vars) parts_of_goal c.args.goals.now c.loop-goal.goal-index c.goal-item.result c.loop-goal-test.true c.requires.parts)

pub loop-goal-preserved : goal.loop-goal-preserved
loop-goal-preserved c =
    goals-next c.args.vars c.args.nodes.now c.loop-goal.nodes c.lay_goal.new.nodes c.args.goals.now c.loop-goal.goal-index c.goal-item.result c.loop-goal.flat.items c.push.new.self.items
    c.in_ok-lay_goal.field-0 c.loop-goal-test.true c.loop-goal.invariant
    (subst (λ g. IsLaidGoal c.args.vars c.loop-goal.nodes c.lay_goal.new.nodes g c.in_ok-lay_goal.field-0) c.goal-item.is c.in_ok-lay_goal.ensures) c.in_ok-push.ensures.items
