use Rattle.std.proofs.Common.{◌≡◌, refl, sym, subst}
use Rattle.std.specs.Prelude.{None}
use Rattle.mars_session.specs.declared.session.Session.TheInside.{Inside}
use Rattle.mars_session.specs.SessionPoints.{SessionPoint}
use Rattle.mars_session.specs.SessionEvents.{ReachesPoint}
use Rattle.mars_session.specs.SessionSeen.{restarted}
use Rattle.mars_session.specs.SessionInside.{part_in, point_in}
use Rattle.mars_session.proofs.Turning.{kept_done, restart_reached}
use Rattle.mars_session.proofs.session.Session.cut.Goals as goal

pub invariant_of-self : goal.invariant_of-self
invariant_of-self c =
    let p : Inside = c.self.inside in
    let q : Inside = record p { steps = 0; answer = None; asking = None; pending = None; text = c.cut.new.self } in
    let to : restarted (point_in p) ≡ point_in q = λ i. record {
      done = p.done;
      steps = 0;
      answer = None;
      names = p.map.items;
      latest = (point_in p).latest;
      mine = p.mine.items;
      before = (sym c.cut.ensures i).before;
      present = (sym c.cut.ensures i).present;
    } in
    kept_done q (subst (λ (x : SessionPoint). ReachesPoint (part_in p) x) to (restart_reached (part_in p) (point_in p) c.self.invariant.reached)) c.self.invariant.asks refl refl
