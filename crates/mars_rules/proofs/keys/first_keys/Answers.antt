use Rattle.std.proofs.Common.{subst}
use Rattle.mars_rules.specs.BaseInside.{IsFirstKey}
use Rattle.mars_rules.proofs.Paired.{paired-step, paired-all}
use Rattle.mars_rules.proofs.keys.first_keys.Goals as goal

pub loop-rule-preserved : goal.loop-rule-preserved
loop-rule-preserved c =
    paired-step IsFirstKey c.args.rules.now c.loop-rule.keys.items c.push.new.self.items c.loop-rule.rule-index c.rule-item.result c.first_key.result c.loop-rule-test.true c.in_ok-push.ensures.items c.loop-rule.invariant
    (subst (λ rule. IsFirstKey rule c.first_key.result) c.rule-item.is c.first_key.ensures)

pub returns : goal.returns
returns c = paired-all IsFirstKey c.args.rules.now c.loop-rule.keys.items c.loop-rule.rule-index c.loop-rule-test.false c.loop-rule.invariant
