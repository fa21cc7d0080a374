use Rattle.std.proofs.Common.{◌≡◌, refl, ap, sym, ◌∙◌, subst, ◌+◌, Some, None}
use Rattle.std.specs.Prelude.{true}
use Rattle.mars_session.specs.declared.session.Session.TheInside.{Inside}
use Rattle.mars_session.specs.TextSeen.{text_with, text_done}
use Rattle.mars_session.specs.SessionEvents.{stepped_by, later_answer}
use Rattle.mars_session.specs.SessionSeen.{SessionSeen, MovesOn}
use Rattle.mars_session.specs.AskingInside.{event_seen, answer_canon}
use Rattle.mars_session.specs.NextInside.{AsksNext}
use Rattle.mars_session.specs.SessionInside.{part_in, point_in, seen_in}
use Rattle.mars_session.proofs.Turning.{kept_done, reached_on, one_on, ask_ended}
use Rattle.mars_session.proofs.session.Session.end_ask.Goals as goal

pub invariant_of-self-2 : goal.invariant_of-self-2
invariant_of-self-2 c =
    let p : Inside = c.self.inside in
    let q : Inside = record p { done = p.done + 1; steps = 0; answer = c.take.new.self; latest = Some (record { vars = c.as_slice.result; answer = c.take.result }); asking = None; pending = None; text = c.end.new.self } in
    let e = c.args.event in
    let ask = c.args.ask.now in
    let next : AsksNext (seen_in p) ask e = subst (λ (s : SessionSeen). AsksNext s ask e) (sym c.self.view_is) c.requires.next in
    let text : c.end.new.self ≡ text_done (text_with p.text e.text.items) = c.end.ensures ∙ ap text_done (c.in_ok-push.ensures.ok ∙ ap (text_with p.text) c.deref.ensures.value) in
    let answer : answer_canon c.take.result ≡ later_answer (answer_canon p.answer) (answer_canon e.answer) = ap answer_canon c.take.ensures.value ∙ c.keep_later.ensures in
    let none : answer_canon c.take.new.self ≡ None = ap answer_canon c.take.ensures.after in
    let to : point_in q ≡ stepped_by true ask.vars (event_seen e) (point_in p) = λ i. record {
      done = one_on p.done i;
      steps = 0;
      answer = none i;
      names = p.map.items;
      latest = Some (record { vars = c.as_slice.ensures i; answer = answer i });
      mine = p.mine.items;
      before = (text i).before;
      present = (text i).present;
    } in
    kept_done q (reached_on (part_in p) (point_in p) (point_in q) c.self.invariant.reached (ask_ended p q ask e next c.requires.ends to)) c.self.invariant.asks refl refl

pub returns-clause-ok : goal.returns-clause-ok
returns-clause-ok c =
    let p : Inside = c.self.inside in
    let q : Inside = record p { done = p.done + 1; steps = 0; answer = c.take.new.self; latest = Some (record { vars = c.as_slice.result; answer = c.take.result }); asking = None; pending = None; text = c.end.new.self } in
    let e = c.args.event in
    let ask = c.args.ask.now in
    let next : AsksNext (seen_in p) ask e = subst (λ (s : SessionSeen). AsksNext s ask e) (sym c.self.view_is) c.requires.next in
    let text : c.end.new.self ≡ text_done (text_with p.text e.text.items) = c.end.ensures ∙ ap text_done (c.in_ok-push.ensures.ok ∙ ap (text_with p.text) c.deref.ensures.value) in
    let answer : answer_canon c.take.result ≡ later_answer (answer_canon p.answer) (answer_canon e.answer) = ap answer_canon c.take.ensures.value ∙ c.keep_later.ensures in
    let none : answer_canon c.take.new.self ≡ None = ap answer_canon c.take.ensures.after in
    let to : point_in q ≡ stepped_by true ask.vars (event_seen e) (point_in p) = λ i. record {
      done = one_on p.done i;
      steps = 0;
      answer = none i;
      names = p.map.items;
      latest = Some (record { vars = c.as_slice.ensures i; answer = answer i });
      mine = p.mine.items;
      before = (text i).before;
      present = (text i).present;
    } in
    subst (λ (s : SessionSeen). MovesOn s (seen_in q)) c.self.view_is (record {
      going = next.going;
      stays = λ i. record { part = part_in p; point = point_in q; cut = (text i).cut };
      event = ask_ended p q ask e next c.requires.ends to;
      none = refl;
    })
