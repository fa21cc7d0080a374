use Rattle.std.proofs.lemmas.Result.{IfOk-weaker}
use Rattle.mars_session.specs.declared.ran.Ran.{Ran}
use Rattle.mars_gate.specs.CutRuns.{GivesCutRunOf}
use Rattle.marseille.specs.Ran.{IsRunTogether}
use Rattle.marseille.proofs.Runs.{run_together}
use Rattle.marseille.proofs.running.run_together.Goals as goal

pub returns : goal.returns
returns g c =
    IfOk-weaker c.run_sessions.result
    (λ (ran : Ran). GivesCutRunOf c.args.input.now c.args.options ran.history.items ran.text.items ran.cut)
    (λ (ran : Ran). IsRunTogether c.args.input.now c.args.options ran.cut ran.history.items ran.text.items)
    (λ ran gives. run_together c.legal_is_live.ensures c.args.input.now c.args.options ran.cut ran.history.items ran.text.items gives)
    c.run_sessions.ensures
