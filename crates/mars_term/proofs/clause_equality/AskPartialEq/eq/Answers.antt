use Rattle.mars_term.specs.ClauseEqualityLaws.{ask_decides}
use Rattle.mars_term.proofs.SameLemmas.{same_by}
use Rattle.mars_term.proofs.clause_equality.AskPartialEq.eq.Goals as goal

pub returns-clause-same : goal.returns-clause-same
returns-clause-same c = same_by c.same_ask.result _ c.same_ask.ensures (ask_decides c.args.self.now c.args.other.now)
