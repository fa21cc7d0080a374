use Rattle.mars_term.specs.ClauseEqualityLaws.{rule_decides}
use Rattle.mars_term.proofs.SameLemmas.{same_by}
use Rattle.mars_term.proofs.clause_equality.RulePartialEq.eq.Goals as goal

pub returns-clause-same : goal.returns-clause-same
returns-clause-same c = same_by c.same_rule.result _ c.same_rule.ensures (rule_decides c.args.self.now c.args.other.now)
