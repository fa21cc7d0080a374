use Rattle.std.proofs.Common.{◌≡◌, refl, ap, sym, ◌∙◌, subst, ◌+◌}
use Rattle.std.specs.Prelude.{None}
use Rattle.mars_session.specs.declared.session.Session.TheInside.{Inside}
use Rattle.mars_session.specs.TextSeen.{text_with, text_done}
use Rattle.mars_session.specs.CommandActs.{Writes}
use Rattle.mars_session.specs.SessionEvents.{IsEvent, command_done}
use Rattle.mars_session.specs.SessionSeen.{SessionSeen}
use Rattle.mars_session.specs.NextInside.{WritesNext}
use Rattle.mars_session.specs.SessionInside.{part_in, point_in, seen_in}
use Rattle.mars_session.proofs.Turning.{kept_done, reached_on, one_on}
use Rattle.mars_session.proofs.session.Session.write_line.Goals as goal

pub invariant_of-self-2 : goal.invariant_of-self-2
invariant_of-self-2 c =
    let p : Inside = c.self.inside in
    let q : Inside = record p { done = p.done + 1; steps = 0; answer = None; asking = None; pending = None; text = c.end.new.self } in
    let next : WritesNext (seen_in p) c.args.line.now = subst (λ (s : SessionSeen). WritesNext s c.args.line.now) (sym c.self.view_is) c.requires in
    let text : c.end.new.self ≡ text_done (text_with p.text c.args.line.now) = c.end.ensures ∙ ap text_done c.in_ok-push.ensures.ok in
    let to : point_in q ≡ command_done (point_in p) c.args.line.now = λ i. record {
      done = one_on p.done i;
      steps = 0;
      answer = None;
      names = p.map.items;
      latest = (point_in p).latest;
      mine = p.mine.items;
      before = (text i).before;
      present = (text i).present;
    } in
    let event : IsEvent (part_in p) (point_in p) (point_in q) = record { command = next.command; is_next = next.is_next; act = Writes c.args.line.now; acts = next.acts; does = to } in
    kept_done q (reached_on (part_in p) (point_in p) (point_in q) c.self.invariant.reached event) c.self.invariant.asks refl refl
