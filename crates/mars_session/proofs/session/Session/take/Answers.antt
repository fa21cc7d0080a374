use Rattle.std.proofs.Common.{◌≡◌, ◌+◌, refl, ap, sym, ◌∙◌, subst, List, [], ◌∷◌, ◌++◌, None}
use Rattle.mars_table.specs.declared.entry.Call.{Call}
use Rattle.mars_table.specs.History.{call_entry}
use Rattle.mars_session.specs.declared.named.Named.{Named}
use Rattle.mars_session.specs.declared.session.Session.TheInside.{Inside}
use Rattle.mars_session.specs.TextSeen.{text_with, text_done}
use Rattle.mars_session.specs.CommandActs.{Uses, AnswersCall, call_of, use_line, names_after}
use Rattle.mars_session.specs.SessionEvents.{IsEvent, WantsCall, answered}
use Rattle.mars_session.specs.SessionSeen.{SessionSeen, TakesReply}
use Rattle.mars_session.specs.WishesInside.{IsWish, IsOutcome, changed}
use Rattle.mars_session.specs.NextInside.{IsPending, WantsReply}
use Rattle.mars_session.specs.SessionInside.{part_in, point_in, seen_in}
use Rattle.mars_session.proofs.Points.{wants_one}
use Rattle.mars_session.proofs.Turning.{kept_done, reached_on, one_on}
use Rattle.mars_session.proofs.session.Session.take.Goals as goal

pub invariant_of-self-2 : goal.invariant_of-self-2
invariant_of-self-2 c =
    let p : Inside = c.self.inside in
    let q : Inside = record p { done = p.done + 1; steps = 0; answer = None; map = c.change_names.new.map; asking = None; pending = c.take.new.self; mine = c.push_reserved.new.self; text = c.end.new.self } in
    let o = c.in_ok-outcome.outcome in
    let n : IsPending (part_in p) (point_in p) c.in-Some.wish = c.self.invariant.waits c.in-Some.wish (sym c.take.ensures.value ∙ c.in-Some.is) in
    let stands : IsWish c.deref.result.now c.in-Some.wish n.wanted = subst (λ (l : List Named). IsWish l c.in-Some.wish n.wanted) (sym c.deref.ensures.value) n.stands in
    let out : IsOutcome p.names.now p.map.items n.wanted c.args.reply o = subst (λ (l : List Named). IsOutcome p.names.now l n.wanted c.args.reply o) c.deref.ensures.value (c.in_ok-outcome.ensures n.wanted stands) in
    let text : c.end.new.self ≡ text_done (text_with p.text (use_line p.names.now n.wanted c.args.reply)) = c.end.ensures ∙ ap text_done (c.in_ok-push.ensures.ok ∙ ap (text_with p.text) (c.deref-2.ensures.value ∙ out.line)) in
    let names : c.change_names.new.map.items ≡ names_after p.map.items n.wanted c.args.reply = c.change_names.ensures ∙ ap (λ (l : List Named). changed l o.change) c.in_ok-reserve.ensures.items ∙ sym out.names_are in
    let mine : c.push_reserved.new.self.items ≡ p.mine.items ++ call_entry p.who (call_of n.wanted) c.args.reply ∷ [] =
    c.push_reserved.ensures.items ∙ (λ i. c.in_ok-reserve-2.ensures.items i ++ call_entry p.who (out.call i) c.args.reply ∷ []) in
    let to : point_in q ≡ answered (part_in p) n.wanted c.args.reply (point_in p) = λ i. record {
      done = one_on p.done i;
      steps = 0;
      answer = None;
      names = names i;
      latest = (point_in p).latest;
      mine = mine i;
      before = (text i).before;
      present = (text i).present;
    } in
    let asked : WantsReply (seen_in p) c.args.reply = subst (λ (s : SessionSeen). WantsReply s c.args.reply) (sym c.self.view_is) c.requires in
    let same : asked.0 ≡ call_of n.wanted = wants_one (part_in p) (point_in p) asked.0 (call_of n.wanted) asked.1.wants (record { command = n.command; is_next = n.is_next; wish = n.wanted; acts = n.acts; call_is = refl }) in
    let fits : AnswersCall (call_of n.wanted) c.args.reply = subst (λ (x : Call). AnswersCall x c.args.reply) same asked.2 in
    let event : IsEvent (part_in p) (point_in p) (point_in q) = record { command = n.command; is_next = n.is_next; act = Uses n.wanted; acts = n.acts; does = (c.args.reply, fits, to) } in
    kept_done q (reached_on (part_in p) (point_in p) (point_in q) c.self.invariant.reached event) c.self.invariant.asks refl c.take.ensures.after

pub returns-clause-ok : goal.returns-clause-ok
returns-clause-ok c call w =
    let p : Inside = c.self.inside in
    let q : Inside = record p { done = p.done + 1; steps = 0; answer = None; map = c.change_names.new.map; asking = None; pending = c.take.new.self; mine = c.push_reserved.new.self; text = c.end.new.self } in
    let o = c.in_ok-outcome.outcome in
    let n : IsPending (part_in p) (point_in p) c.in-Some.wish = c.self.invariant.waits c.in-Some.wish (sym c.take.ensures.value ∙ c.in-Some.is) in
    let stands : IsWish c.deref.result.now c.in-Some.wish n.wanted = subst (λ (l : List Named). IsWish l c.in-Some.wish n.wanted) (sym c.deref.ensures.value) n.stands in
    let out : IsOutcome p.names.now p.map.items n.wanted c.args.reply o = subst (λ (l : List Named). IsOutcome p.names.now l n.wanted c.args.reply o) c.deref.ensures.value (c.in_ok-outcome.ensures n.wanted stands) in
    let text : c.end.new.self ≡ text_done (text_with p.text (use_line p.names.now n.wanted c.args.reply)) = c.end.ensures ∙ ap text_done (c.in_ok-push.ensures.ok ∙ ap (text_with p.text) (c.deref-2.ensures.value ∙ out.line)) in
    let names : c.change_names.new.map.items ≡ names_after p.map.items n.wanted c.args.reply = c.change_names.ensures ∙ ap (λ (l : List Named). changed l o.change) c.in_ok-reserve.ensures.items ∙ sym out.names_are in
    let mine : c.push_reserved.new.self.items ≡ p.mine.items ++ call_entry p.who (call_of n.wanted) c.args.reply ∷ [] =
    c.push_reserved.ensures.items ∙ (λ i. c.in_ok-reserve-2.ensures.items i ++ call_entry p.who (out.call i) c.args.reply ∷ []) in
    let to : point_in q ≡ answered (part_in p) n.wanted c.args.reply (point_in p) = λ i. record {
      done = one_on p.done i;
      steps = 0;
      answer = None;
      names = names i;
      latest = (point_in p).latest;
      mine = mine i;
      before = (text i).before;
      present = (text i).present;
    } in
    let asked : WantsReply (seen_in p) c.args.reply = subst (λ (s : SessionSeen). WantsReply s c.args.reply) (sym c.self.view_is) c.requires in
    let w' : WantsCall (part_in p) (point_in p) call = subst (λ (s : SessionSeen). WantsCall s.part s.point call) (sym c.self.view_is) w in
    let own : WantsCall (part_in p) (point_in p) (call_of n.wanted) = record { command = n.command; is_next = n.is_next; wish = n.wanted; acts = n.acts; call_is = refl } in
    let same : call ≡ call_of n.wanted = wants_one (part_in p) (point_in p) call (call_of n.wanted) w' own in
    let asked_same : asked.0 ≡ call = wants_one (part_in p) (point_in p) asked.0 call asked.1.wants w' in
    subst (λ (s : SessionSeen). TakesReply s call c.args.reply (seen_in q)) c.self.view_is (record {
      wants = record { command = n.command; is_next = n.is_next; wish = n.wanted; acts = n.acts; call_is = same };
      fits = subst (λ (x : Call). AnswersCall x c.args.reply) asked_same asked.2;
      new_is = λ i. record { part = part_in p; point = to i; cut = (text i).cut };
    })
