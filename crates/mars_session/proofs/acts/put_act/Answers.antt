use Rattle.std.proofs.Common.{sym, subst, List, Option, IfOk}
use Rattle.mars_session.specs.declared.acts.Act.{Act}
use Rattle.mars_session.specs.declared.named.Named.{Named}
use Rattle.mars_session.specs.CommandActs.{KeepsTree, PutActs}
use Rattle.mars_session.specs.ActsInside.{IsAct}
use Rattle.mars_session.proofs.Results.{ok_map}
use Rattle.mars_session.proofs.acts.put_act.Goals as goal

pub returns-in-None : goal.returns-in-None
returns-in-None c =
    let r = c.keep_tree.result in
    let names = c.args.names.now in
    subst (λ (o : Option Named). IfOk r (IsAct names (PutActs o c.args.name c.args.graph.now c.args.root))) (sym c.in-None.ensures)
    (ok_map (λ (act : Act). (names : List Named) → IsAct names (KeepsTree c.args.name c.args.graph.now c.args.root) act) (λ (act : Act). IsAct names (KeepsTree c.args.name c.args.graph.now c.args.root) act) r (λ act f. f names) c.keep_tree.ensures)
