use Rattle.mars_rules.specs.CopyingInside.{IsCopiedGoal}
use Rattle.mars_rules.proofs.Paired.{paired-step, paired-all}
use Rattle.mars_rules.proofs.copying.copy_goals.Goals as goal

pub loop-goal-preserved : goal.loop-goal-preserved
loop-goal-preserved c =
    paired-step (IsCopiedGoal c.args.nodes.now) c.args.goals.now c.loop-goal.body c.push.new.self c.loop-goal.goal-index _ c.copy_goal.result c.loop-goal-test.true c.in_ok-push.ensures.ok
    c.loop-goal.invariant c.copy_goal.ensures

pub returns : goal.returns
returns c = paired-all (IsCopiedGoal c.args.nodes.now) c.args.goals.now c.loop-goal.body c.loop-goal.goal-index c.loop-goal-test.false c.loop-goal.invariant
