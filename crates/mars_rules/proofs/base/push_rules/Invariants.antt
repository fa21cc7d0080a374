use Rattle.std.proofs.Common.{◌≡◌, ◌++◌, take}
use Rattle.mars_rules.proofs.base.push_rules.Given as goal

-- so many rules were added
abbrev pub invariant-loop-rule : goal.invariant-loop-rule
invariant-loop-rule l = l.rules.items ≡ l.fn.rules.items ++ take l.rule-index l.from
