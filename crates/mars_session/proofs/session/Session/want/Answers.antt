use Rattle.std.proofs.Common.{ap, sym, ◌∙◌, subst, List}
use Rattle.mars_session.specs.declared.named.Named.{Named}
use Rattle.mars_session.specs.WishesInside.{IsWish}
use Rattle.mars_session.specs.SessionEvents.{WantsCall, ReachesPoint}
use Rattle.mars_session.specs.SessionSeen.{SessionSeen}
use Rattle.mars_session.proofs.Handles.{calls_are_allowed}
use Rattle.mars_session.proofs.session.Session.want.Goals as goal

pub returns-clause-ok : goal.returns-clause-ok
returns-clause-ok c =
    let s : SessionSeen = c.args.self.now in
    let n = c.requires.next in
    let stands : IsWish c.deref.result.now c.args.wish n.wanted = subst (λ (l : List Named). IsWish l c.args.wish n.wanted) (sym (c.deref.ensures.value ∙ ap (λ (s : SessionSeen). s.point.names) c.self.view_is)) n.stands in
    let wants : WantsCall s.part s.point c.in_ok-call.call = record { command = n.command; is_next = n.is_next; wish = n.wanted; acts = n.acts; call_is = c.in_ok-call.ensures n.wanted stands } in
    record {
      going = c.requires.going;
      wants = wants;
      may = calls_are_allowed s.part s.point c.in_ok-call.call (subst (λ (s : SessionSeen). ReachesPoint s.part s.point) c.self.view_is c.self.invariant.reached) wants;
    }
