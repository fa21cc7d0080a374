use Rattle.std.proofs.Common.{[]}
use Rattle.mars_run.proofs.Calling.{choices-have}
use Rattle.mars_run.proofs.Going.{held-choices, answer-goes}
use Rattle.mars_run.proofs.stepping.step_answer.Goals as goal

pub next_alternative-requires-clause-choices : goal.next_alternative-requires-clause-choices
next_alternative-requires-clause-choices c =
    choices-have c.args.rules.now.rules c.args.memory.now c.tell_answer.new.memory c.args.points.now c.tell_answer.ensures.later
    (held-choices c.args.asked.now c.args.rules.now.rules c.args.memory.now c.args.points.now [] c.requires.answer)

pub returns : goal.returns
returns c =
    answer-goes c.args.asked.now c.args.rules.now c.args.memory.now c.tell_answer.new.memory c.args.points.now c.in_ok-answer.answer c.next_alternative.new.memory c.next_alternative.new.points
    c.in_ok-next.next c.in_ok-answer.ensures.answer c.tell_answer.ensures.later c.in_ok-next.ensures
