use Rattle.mars_rules.proofs.Found.{any-rule, no-rule}
use Rattle.mars_rules.proofs.base.any_from.Goals as goal

pub returns-then-from-rules : goal.returns-then-from-rules
returns-then-from-rules c = any-rule c.args.rules.now c.args.from c.if-from-rules.true

pub returns-else-from-rules : goal.returns-else-from-rules
returns-else-from-rules c = no-rule c.args.rules.now c.args.from c.if-from-rules.false
