use Rattle.std.proofs.Common.{take}
use Rattle.mars_rules.specs.PairedLists.{AllPaired}
use Rattle.mars_rules.specs.FlatRules.{IsFlatRule}
use Rattle.mars_rules.proofs.base.lay_rules.Given as goal

-- so many rules were laid out
abbrev pub invariant-loop-rule : goal.invariant-loop-rule
invariant-loop-rule l = AllPaired IsFlatRule (take l.rule-index l.rules) l.flat.items
