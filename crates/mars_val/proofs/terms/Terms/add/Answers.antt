use Rattle.mars_reach.proofs.CallerLemmas.{distinct_from_unique}
use Rattle.mars_val.proofs.terms.Terms.add.Goals as goal

pub returns-clause-distinct : goal.returns-clause-distinct
returns-clause-distinct c = distinct_from_unique c.insert_full.new.self.keys c.in_ok-insert_full.ensures.unique
