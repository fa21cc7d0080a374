use Rattle.mars_answer.proofs.Knowing.{walks_shown, known_kept, answer_shows}
use Rattle.mars_answer.proofs.laws.walks_shown.Goals as goal

pub returns-clause-shown : goal.returns-clause-shown
returns-clause-shown c = walks_shown

pub returns-clause-kept : goal.returns-clause-kept
returns-clause-kept c = known_kept

pub returns-clause-answer : goal.returns-clause-answer
returns-clause-answer c = answer_shows
