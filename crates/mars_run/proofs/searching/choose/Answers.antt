use Rattle.mars_run.proofs.Backtracking.{chosen-none, chosen-one}
use Rattle.mars_run.proofs.searching.choose.Goals as goal

pub returns-in-None : goal.returns-in-None
returns-in-None c =
    chosen-none c.args.rules.now.rules c.args.memory.now c.args.points.now c.args.choice.now c.len-depth.result c.try_rules.new.memory c.len-depth.ensures
    (rw c.in-None.is at c.in_ok-try_rules.ensures)

pub returns-in_ok-keep_left-in-Some : goal.returns-in_ok-keep_left-in-Some
returns-in_ok-keep_left-in-Some c =
    let tried = rw c.in-Some.is at c.in_ok-try_rules.ensures in
    chosen-one c.args.rules.now.rules c.args.memory.now c.args.points.now c.keep_left.new.points c.args.choice.now c.len-depth.result c.try_rules.new.memory c.in-Some.found.0 c.in-Some.found.1
    c.len-depth.ensures c.requires.made c.requires.back tried c.in_ok-keep_left-in-Some.ensures
