use Rattle.mars_rules.proofs.copying.copy_rule.Goals as goal

pub returns-in-Ok-clause-system : goal.returns-in-Ok-clause-system
returns-in-Ok-clause-system c = (c.in-Ok.ensures.copy c.requires.0 c.requires.1).system
