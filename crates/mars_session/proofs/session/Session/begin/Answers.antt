use Rattle.std.proofs.Common.{◌≡◌, ap, sym, ◌∙◌, subst, List, [], ◌∷◌, Some, None}
use Rattle.std.specs.Prelude.{slice_get}
use Rattle.mars_tree.specs.Graph.{Node}
use Rattle.mars_script.specs.declared.script.Command.TheVariants as command
use Rattle.mars_session.specs.declared.named.Named.{Named}
use Rattle.mars_session.specs.declared.asking.Begun.{Begun}
use Rattle.mars_session.specs.declared.session.Session.TheInside.{Inside}
use Rattle.mars_session.specs.SessionPoints.{named_trees}
use Rattle.mars_session.specs.SessionSeen.{SessionSeen}
use Rattle.mars_session.specs.AskingInside.{IsBegun}
use Rattle.mars_session.specs.NextInside.{AsksNext, WritesNext}
use Rattle.mars_session.specs.SessionInside.{part_in, point_in}
use Rattle.mars_session.proofs.Turning.{unnamed_act, at_once}
use Rattle.mars_session.proofs.session.Session.begin.Goals as goal

pub write_line-requires : goal.write_line-requires
write_line-requires c =
    let p : Inside = c.self.inside in
    let ask = c.args.ask.now in
    let none : named_trees c.deref.result.now ask.kept ≡ None = rw c.in-None.is at c.in_ok-open_ask.ensures in
    let trees : named_trees p.map.items ask.kept ≡ None = ap (λ (l : List Named). named_trees l ask.kept) (sym c.deref.ensures.value) ∙ none in
    subst (λ (s : SessionSeen). WritesNext s (110 ∷ 111 ∷ 32 ∷ 110 ∷ 97 ∷ 109 ∷ 101 ∷ 10 ∷ [])) c.self.view_is (record {
      going = ap (λ (s : SessionSeen). s.cut) c.self.view_is ∙ c.requires.going;
      command = command.Ask ask;
      is_next = ap (λ (s : SessionSeen). slice_get s.part.commands s.point.done) c.self.view_is ∙ c.requires.next;
      acts = unnamed_act (point_in p) ask trees;
    })

pub end_ask-requires-clause-next : goal.end_ask-requires-clause-next
end_ask-requires-clause-next c =
    let p : Inside = c.self.inside in
    let ask = c.args.ask.now in
    let e = c.in-Some-Ended.event in
    let b : (kept : List (List Node)) × (named_trees c.deref.result.now ask.kept ≡ Some kept) × IsBegun p.rules.now ask kept p.budget c.in-Some-Ended.field-0 = rw c.in-Some-Ended.is at c.in_ok-open_ask.ensures in
    let ended = subst (λ (x : Begun). IsBegun p.rules.now ask b.0 p.budget x) c.in-Some-Ended.field-0-is b.2 in
    let none_done : p.steps ≡ 0 = ap (λ (s : SessionSeen). s.point.steps) c.self.view_is ∙ c.requires.new in
    subst (λ (s : SessionSeen). AsksNext s ask e) c.self.view_is (record {
      going = ap (λ (s : SessionSeen). s.cut) c.self.view_is ∙ c.requires.going;
      kept = b.0;
      next = record {
        is_next = ap (λ (s : SessionSeen). slice_get s.part.commands s.point.done) c.self.view_is ∙ c.requires.next;
        trees = ap (λ (l : List Named). named_trees l ask.kept) (sym c.deref.ensures.value) ∙ b.1;
      };
      event = at_once (part_in p) ask b.0 p.steps e none_done ended.0;
    })
