use Rattle.std.proofs.Common.{subst}
use Rattle.mars_rules.specs.FlatRules.{IsFlatRule}
use Rattle.mars_rules.proofs.Paired.{paired-step, paired-all}
use Rattle.mars_rules.proofs.base.lay_rules.Goals as goal

pub loop-rule-preserved : goal.loop-rule-preserved
loop-rule-preserved c =
    paired-step IsFlatRule c.args.rules.now c.loop-rule.flat.items c.push.new.self.items c.loop-rule.rule-index c.rule-item.result c.in_ok-lay_rule.field-0 c.loop-rule-test.true c.in_ok-push.ensures.items c.loop-rule.invariant
    (subst (λ rule. IsFlatRule rule c.in_ok-lay_rule.field-0) c.rule-item.is c.in_ok-lay_rule.ensures)

pub returns : goal.returns
returns c = paired-all IsFlatRule c.args.rules.now c.loop-rule.flat.items c.loop-rule.rule-index c.loop-rule-test.false c.loop-rule.invariant
