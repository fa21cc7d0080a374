use Rattle.mars_children.proofs.Deciding.{decide_equal, decide_implied, decide_difs, open_denoted}
use Rattle.mars_children.proofs.laws.systems_decide.Goals as goal

pub returns-clause-equal : goal.returns-clause-equal
returns-clause-equal c = decide_equal

pub returns-clause-implied : goal.returns-clause-implied
returns-clause-implied c = decide_implied

pub returns-clause-difs : goal.returns-clause-difs
returns-clause-difs c = decide_difs

pub returns-clause-allowed : goal.returns-clause-allowed
returns-clause-allowed c = open_denoted
