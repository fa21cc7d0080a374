use Rattle.std.proofs.Common.{◌≡◌, refl, sym, subst, List}
use Rattle.mars_session.specs.declared.named.Named.{Named}
use Rattle.mars_session.specs.declared.acts.Act.{Act}
use Rattle.mars_session.specs.SessionPoints.{SessionPoint}
use Rattle.mars_session.specs.CommandActs.{ActsAt}
use Rattle.mars_session.specs.SessionSeen.{SessionSeen}
use Rattle.mars_session.specs.ActsInside.{IsAct, latest_of}
use Rattle.mars_session.specs.SessionInside.{point_in}
use Rattle.mars_session.proofs.Results.{ok_map}
use Rattle.mars_session.proofs.session.Session.act.Goals as goal

pub returns : goal.returns
returns c =
    let p = c.self.inside in
    let command = c.args.command.now in
    ok_map (λ (act : Act). (x : SessionPoint) → x.names ≡ c.deref.result.now → x.latest ≡ latest_of p.latest → IsAct c.deref.result.now (ActsAt x command) act)
    (λ (act : Act). IsAct c.args.self.now.point.names (ActsAt c.args.self.now.point command) act) c.command_act.result
    (λ act h. subst (λ (s : SessionSeen). IsAct s.point.names (ActsAt s.point command) act) c.self.view_is
    (subst (λ (l : List Named). IsAct l (ActsAt (point_in p) command) act) c.deref.ensures.value (h (point_in p) (sym c.deref.ensures.value) refl))) c.command_act.ensures
