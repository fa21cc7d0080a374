use Rattle.mars_run.proofs.Calling.{choices-have, built-in-goes, built-in-fails}
use Rattle.mars_run.proofs.stepping.step_built_in.Goals as goal

pub next_alternative-requires-clause-choices : goal.next_alternative-requires-clause-choices
next_alternative-requires-clause-choices c =
    let done = rw c.in-None.is at c.in_ok-list.ensures in
    choices-have c.args.rules.now.rules c.args.memory.now c.call_built_in.new.memory c.args.points.now done.0 c.requires.choices

pub returns-in-Some : goal.returns-in-Some
returns-in-Some c =
    built-in-goes c.args.rules.now c.args.memory.now c.args.points.now c.args.node c.args.rest c.args.built_in c.requires.has c.requires.label
    c.in_ok-told.told c.call_built_in.new.memory c.in-Some.list c.in_ok-told.ensures (rw c.in-Some.is at c.in_ok-list.ensures)

pub returns-in_ok-next-in-None : goal.returns-in_ok-next-in-None
returns-in_ok-next-in-None c =
    built-in-fails c.args.rules.now c.args.memory.now c.args.points.now c.args.node c.args.rest c.args.built_in c.requires.has c.requires.label
    c.call_built_in.new.memory c.next_alternative.new.memory c.next_alternative.new.points c.in_ok-next-in-None.next
    (rw c.in-None.is at c.in_ok-list.ensures) c.in_ok-next-in-None.ensures
