use Rattle.std.proofs.Common.{take}
use Rattle.mars_rules.specs.PairedLists.{AllPaired}
use Rattle.mars_rules.specs.BaseInside.{IsFirstKey}
use Rattle.mars_rules.proofs.keys.first_keys.Given as goal

-- so many rules have their keys
abbrev pub invariant-loop-rule : goal.invariant-loop-rule
invariant-loop-rule l = AllPaired IsFirstKey (take l.rule-index l.rules) l.keys.items
