use Rattle.std.proofs.Common.{◌≡◌, sym, subst, List, Option}
use Rattle.mars_script.specs.declared.script.Command.{Command}
use Rattle.mars_session.specs.declared.acts.Act.{Act}
use Rattle.mars_session.specs.declared.named.Named.{Named}
use Rattle.mars_session.specs.SessionPoints.{SessionPoint, LatestAsk, under_name}
use Rattle.mars_session.specs.CommandActs.{PutActs, KeepActs, SameActs, ActsAt}
use Rattle.mars_session.specs.ActsInside.{IsAct, latest_of}
use Rattle.mars_session.proofs.Results.{ok_map}
use Rattle.mars_session.proofs.acts.command_act.Goals as goal

pub returns-in-Put : goal.returns-in-Put
unfolding ActsAt
returns-in-Put c =
    let names = c.args.names.now in
    let g = c.in-Put.graph in
    ok_map (λ (act : Act). IsAct names (PutActs (under_name names c.in-Put.name) c.in-Put.name g c.in-Put.root) act)
    (λ (act : Act). (p : SessionPoint) → p.names ≡ names → p.latest ≡ latest_of c.args.latest.now → IsAct names (ActsAt p c.args.command.now) act) c.put_act.result
    (λ act h p en el. subst (λ (x : Command). IsAct names (ActsAt p x) act) (sym c.in-Put.is) (subst (λ (l : List Named). IsAct names (PutActs (under_name l c.in-Put.name) c.in-Put.name g c.in-Put.root) act) (sym en) h)) c.put_act.ensures

pub returns-in-Keep : goal.returns-in-Keep
unfolding ActsAt
returns-in-Keep c =
    let names = c.args.names.now in
    let name = c.in-Keep.name in
    let var = c.in-Keep.var in
    ok_map (λ (act : Act). IsAct names (KeepActs (under_name names name) name var (latest_of c.args.latest.now)) act)
    (λ (act : Act). (p : SessionPoint) → p.names ≡ names → p.latest ≡ latest_of c.args.latest.now → IsAct names (ActsAt p c.args.command.now) act) c.keep_act.result
    (λ act h p en el. subst (λ (x : Command). IsAct names (ActsAt p x) act) (sym c.in-Keep.is)
    (subst (λ (l : List Named). IsAct names (KeepActs (under_name l name) name var p.latest) act) (sym en)
    (subst (λ (o : Option LatestAsk). IsAct names (KeepActs (under_name names name) name var o) act) (sym el) h))) c.keep_act.ensures

pub returns-in-Same : goal.returns-in-Same
unfolding ActsAt
returns-in-Same c =
    let names = c.args.names.now in
    ok_map (λ (act : Act). IsAct names (SameActs (under_name names c.in-Same.left) (under_name names c.in-Same.right)) act)
    (λ (act : Act). (p : SessionPoint) → p.names ≡ names → p.latest ≡ latest_of c.args.latest.now → IsAct names (ActsAt p c.args.command.now) act) c.same_act.result
    (λ act h p en el. subst (λ (x : Command). IsAct names (ActsAt p x) act) (sym c.in-Same.is)
    (subst (λ (l : List Named). IsAct names (SameActs (under_name l c.in-Same.left) (under_name l c.in-Same.right)) act) (sym en) h)) c.same_act.ensures
