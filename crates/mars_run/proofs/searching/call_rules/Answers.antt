use Rattle.std.proofs.Common.{refl}
use Rattle.std.proofs.lemmas.Result.{IfOk-weaker}
use Rattle.mars_goals.specs.declared.choice.Choice.{Choice}
use Rattle.mars_run.proofs.Backtracking.{down-back}
use Rattle.mars_run.proofs.searching.call_rules.Goals as goal

pub returns-in-None : goal.returns-in-None
returns-in-None c =
    let chosen = rw c.in-None.is at c.in_ok-list.ensures in
    let choice : Choice = record { mark = c.mark.result; call = c.args.node; rest = c.args.rest; from = 0 } in
    IfOk-weaker c.next_alternative.result _ _
    (λ next back. down-back c.args.rules.now.rules c.args.memory.now c.choose.new.memory c.args.points.now c.choose.new.points choice c.next_alternative.new.memory c.next_alternative.new.points next
    c.args.node c.args.rest refl refl refl chosen back)
    c.next_alternative.ensures
