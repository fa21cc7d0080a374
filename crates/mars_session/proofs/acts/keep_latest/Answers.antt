use Rattle.std.proofs.Common.{sym, subst, List, Option, IfOk}
use Rattle.mars_session.specs.declared.acts.Latest.{Latest}
use Rattle.mars_session.specs.declared.named.Named.{Named}
use Rattle.mars_session.specs.CommandActs.{KeepsLatest}
use Rattle.mars_session.specs.ActsInside.{IsAct, latest_of}
use Rattle.mars_session.proofs.acts.keep_latest.Goals as goal

pub returns-in-Some : goal.returns-in-Some
returns-in-Some c =
    subst (λ (o : Option Latest). IfOk c.keep_variable.result (λ act. (names : List Named) → IsAct names (KeepsLatest c.args.name c.args.var (latest_of o)) act)) (sym c.in-Some.is) c.keep_variable.ensures
