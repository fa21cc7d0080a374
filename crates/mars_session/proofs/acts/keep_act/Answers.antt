use Rattle.std.proofs.Common.{sym, subst, List, Option, IfOk}
use Rattle.mars_session.specs.declared.acts.Act.{Act}
use Rattle.mars_session.specs.declared.named.Named.{Named}
use Rattle.mars_session.specs.CommandActs.{KeepsLatest, KeepActs}
use Rattle.mars_session.specs.ActsInside.{IsAct, latest_of}
use Rattle.mars_session.proofs.Results.{ok_map}
use Rattle.mars_session.proofs.acts.keep_act.Goals as goal

pub returns-in-None : goal.returns-in-None
returns-in-None c =
    let r = c.keep_latest.result in
    let names = c.args.names.now in
    subst (λ (o : Option Named). IfOk r (IsAct names (KeepActs o c.args.name c.args.var (latest_of c.args.latest.now)))) (sym c.in-None.ensures)
    (ok_map (λ (act : Act). (names : List Named) → IsAct names (KeepsLatest c.args.name c.args.var (latest_of c.args.latest.now)) act) (λ (act : Act). IsAct names (KeepsLatest c.args.name c.args.var (latest_of c.args.latest.now)) act) r (λ act f. f names) c.keep_latest.ensures)
