use Rattle.mars_term.specs.TermEquality.{same_term}
use Rattle.mars_term.specs.TermEqualityLaws.{term_decides}
use Rattle.mars_term.proofs.SameLemmas.{tested}
use Rattle.mars_term.proofs.equality.TermPartialEq.eq.Goals as goal

pub returns-clause-value : goal.returns-clause-value
returns-clause-value c = tested c.same_term.result (same_term c.args.self.now c.args.other.now) c.same_term.ensures (term_decides c.args.self.now c.args.other.now)
