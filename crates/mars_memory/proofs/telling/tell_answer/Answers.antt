use Rattle.mars_memory.proofs.Told.{inside-looked, told-where-ok}
use Rattle.mars_memory.proofs.telling.tell_answer.Goals as goal

pub answer_at-requires-clause-asked : goal.answer_at-requires-clause-asked
answer_at-requires-clause-asked c = (inside-looked c.args.memory.now c.look_again.new.self c.look_again.ensures.others c.in_ok-_fine.ensures.current c.args.asked.now c.requires.0 c.requires.1 c.requires.2 c.requires.3).0

pub answer_at-requires-clause-difs : goal.answer_at-requires-clause-difs
answer_at-requires-clause-difs c = (inside-looked c.args.memory.now c.look_again.new.self c.look_again.ensures.others c.in_ok-_fine.ensures.current c.args.asked.now c.requires.0 c.requires.1 c.requires.2 c.requires.3).1

pub answer_at-requires-clause-frozen : goal.answer_at-requires-clause-frozen
answer_at-requires-clause-frozen c = (inside-looked c.args.memory.now c.look_again.new.self c.look_again.ensures.others c.in_ok-_fine.ensures.current c.args.asked.now c.requires.0 c.requires.1 c.requires.2 c.requires.3).2

pub returns-clause-answer : goal.returns-clause-answer
returns-clause-answer c =
    let told = c.answer_at.ensures in
    told-where-ok c.args.memory.now c.look_again.new.self c.look_again.ensures.others c.in_ok-_fine.ensures.current c.args.asked.now c.answer_at.result told.answer told.vars told.difs told.frozen
