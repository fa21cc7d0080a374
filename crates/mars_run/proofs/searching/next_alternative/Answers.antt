use Rattle.std.proofs.Common.{length, refl, sym}
use Rattle.mars_goals.specs.declared.choice.Choice.{Choice}
use Rattle.mars_run.proofs.Stacks.{one-each}
use Rattle.mars_run.proofs.Backtracking.{popped, choice-held, ends-back, top-of, passed-back, went-back}
use Rattle.mars_run.proofs.searching.next_alternative.Goals as goal

pub undo_to-requires : goal.undo_to-requires
undo_to-requires c =
    let h = c.points.invariant c.requires.choices.asked c.requires.choices.groups c.requires.choices.choices_are in
    (popped c.requires.choices.asked c.args.rules.now.rules c.points.memory c.points.points c.in-Some.latest c.pop.new.self h.now c.in-Some.ensures h.are).mark

pub choose-requires-clause-held : goal.choose-requires-clause-held
choose-requires-clause-held c =
    let latest = c.in-Some.latest in
    let t = top-of c.args.rules.now.rules c.args.memory.now c.args.points.now c.points.memory c.points.points c.points.invariant latest latest c.pop.new.self c.in-Some.ensures
    c.undo_to.new.self c.undo_to.ensures refl refl refl c.requires.choices.asked c.requires.choices.groups c.requires.choices.choices_are in
    choice-held c.requires.choices.asked c.args.rules.now.rules c.undo_to.new.self t.below latest.call latest.rest latest.from (length c.pop.new.self) t.children t.top
    (sym (one-each c.requires.choices.asked c.args.rules.now.rules c.undo_to.new.self c.pop.new.self t.below t.before))

pub choose-requires-clause-within : goal.choose-requires-clause-within
choose-requires-clause-within c =
    let latest = c.in-Some.latest in
    let t = top-of c.args.rules.now.rules c.args.memory.now c.args.points.now c.points.memory c.points.points c.points.invariant latest latest c.pop.new.self c.in-Some.ensures
    c.undo_to.new.self c.undo_to.ensures refl refl refl c.requires.choices.asked c.requires.choices.groups c.requires.choices.choices_are in
    t.top.within

pub returns-in-Some-2 : goal.returns-in-Some-2
returns-in-Some-2 c =
    let latest = c.in-Some.latest in
    let choice : Choice = record { mark = c.mark.result; call = latest.call; rest = latest.rest; from = latest.from } in
    let chosen = rw c.in-Some-2.is at c.in_ok-list.ensures in
    went-back c.args.rules.now.rules c.args.memory.now c.args.points.now c.points.memory c.points.points c.points.invariant latest choice c.pop.new.self c.in-Some.ensures
    c.undo_to.new.self c.undo_to.ensures refl refl refl c.choose.new.memory c.choose.new.points c.in-Some-2.list chosen

pub points-preserved : goal.points-preserved
points-preserved c =
    let latest = c.in-Some.latest in
    let choice : Choice = record { mark = c.mark.result; call = latest.call; rest = latest.rest; from = latest.from } in
    let chosen = rw c.in_default-2.is at c.in_ok-list.ensures in
    passed-back c.args.rules.now.rules c.args.memory.now c.args.points.now c.points.memory c.points.points c.points.invariant latest choice c.pop.new.self c.in-Some.ensures
    c.undo_to.new.self c.undo_to.ensures refl refl refl c.choose.new.memory c.choose.new.points chosen

pub returns : goal.returns
returns c =
    ends-back c.args.rules.now.rules c.args.memory.now c.args.points.now c.points.memory c.points.points c.points.invariant c.in_default.ensures.0 c.points.memory c.pop.new.self
