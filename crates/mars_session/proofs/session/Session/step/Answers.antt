use Rattle.std.proofs.Common.{◌≡◌, ap, sym, ◌∙◌, subst, slice_get, Some}
use Rattle.mars_term.specs.declared.clause.Ask.{Ask}
use Rattle.mars_script.specs.declared.script.Command.TheVariants as command
use Rattle.mars_machine.specs.Machines.{SeenMachine}
use Rattle.mars_session.specs.declared.session.Session.TheInside.{Inside}
use Rattle.mars_session.specs.SessionSeen.{SessionSeen}
use Rattle.mars_session.specs.NextInside.{RunsAsk}
use Rattle.mars_session.specs.SessionInside.{part_in, point_in, seen_in}
use Rattle.mars_session.proofs.Turning.{same_ask, asks_by, runs_by}
use Rattle.mars_session.proofs.session.Session.step.Goals as goal

pub step_ask-requires-clause-runs : goal.step_ask-requires-clause-runs
step_ask-requires-clause-runs c = (c.self.invariant.runs c.in-Some.asking (sym c.take.ensures.value ∙ c.in-Some.is)).asks

pub step_ask-requires-clause-vars : goal.step_ask-requires-clause-vars
step_ask-requires-clause-vars c =
    let p : Inside = c.self.inside in
    let ask = c.args.ask.now in
    let r : RunsAsk (part_in p) (point_in p) c.in-Some.asking = c.self.invariant.runs c.in-Some.asking (sym c.take.ensures.value ∙ c.in-Some.is) in
    let next : slice_get (part_in p).commands (point_in p).done ≡ Some (command.Ask ask) = subst (λ (s : SessionSeen). slice_get s.part.commands s.point.done ≡ Some (command.Ask ask)) (sym c.self.view_is) c.requires.next in
    c.as_slice.ensures ∙ sym (ap (λ (m : SeenMachine). m.ask.vars) r.machine ∙ ap (λ (k : Ask). k.vars) (same_ask (part_in p) (point_in p) c.in-Some.asking r ask next))

pub step_ask-requires-clause-most : goal.step_ask-requires-clause-most
step_ask-requires-clause-most c =
    let p : Inside = c.self.inside in
    let ask = c.args.ask.now in
    let r : RunsAsk (part_in p) (point_in p) c.in-Some.asking = c.self.invariant.runs c.in-Some.asking (sym c.take.ensures.value ∙ c.in-Some.is) in
    let next : slice_get (part_in p).commands (point_in p).done ≡ Some (command.Ask ask) = subst (λ (s : SessionSeen). slice_get s.part.commands s.point.done ≡ Some (command.Ask ask)) (sym c.self.view_is) c.requires.next in
    sym (ap (λ (m : SeenMachine). m.ask.most) r.machine ∙ ap (λ (k : Ask). k.most) (same_ask (part_in p) (point_in p) c.in-Some.asking r ask next))

pub follow-requires-clause-next : goal.follow-requires-clause-next
follow-requires-clause-next c =
    let p : Inside = c.self.inside in
    let ask = c.args.ask.now in
    let r : RunsAsk (part_in p) (point_in p) c.in-Some.asking = c.self.invariant.runs c.in-Some.asking (sym c.take.ensures.value ∙ c.in-Some.is) in
    let next : slice_get (part_in p).commands (point_in p).done ≡ Some (command.Ask ask) = subst (λ (s : SessionSeen). slice_get s.part.commands s.point.done ≡ Some (command.Ask ask)) (sym c.self.view_is) c.requires.next in
    asks_by (seen_in p) c.in-Some.asking r ask (same_ask (part_in p) (point_in p) c.in-Some.asking r ask next) c.in-Ok.event
    (ap (λ (s : SessionSeen). s.cut) c.self.view_is ∙ c.requires.going) c.in-Ok.ensures.event

pub follow-requires-clause-runs : goal.follow-requires-clause-runs
follow-requires-clause-runs c = λ on.
    let p : Inside = c.self.inside in
    let ask = c.args.ask.now in
    let r : RunsAsk (part_in p) (point_in p) c.in-Some.asking = c.self.invariant.runs c.in-Some.asking (sym c.take.ensures.value ∙ c.in-Some.is) in
    let next : slice_get (part_in p).commands (point_in p).done ≡ Some (command.Ask ask) = subst (λ (s : SessionSeen). slice_get s.part.commands s.point.done ≡ Some (command.Ask ask)) (sym c.self.view_is) c.requires.next in
    runs_by (seen_in p) c.in-Some.asking c.step_ask.new.asking r ask (same_ask (part_in p) (point_in p) c.in-Some.asking r ask next) c.in-Ok.ensures.steps (c.in-Ok.ensures.on on)
