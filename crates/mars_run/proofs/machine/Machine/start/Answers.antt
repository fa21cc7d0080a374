use Rattle.mars_run.proofs.Starting.{started-running}
use Rattle.mars_run.proofs.machine.Machine.start.Goals as goal

pub invariant_of-result : goal.invariant_of-result
invariant_of-result c =
    let begun = c.in_ok-begun.begun in
    started-running c.args.ask.now c.args.kept.now begun.store begun.vars.items begun.lists begun.goals c.in_ok-begun.ensures.started
    c.args.rules.now c.version-version.ensures.rules c.in_ok-begun.ensures.inside c.in_ok-own_ask.own_ask c.in_ok-own_ask.ensures c.in_ok-own_trees.own_trees.items c.in_ok-own_trees.ensures
    c.new.result c.new.ensures c.new-2.result c.new-2.ensures
