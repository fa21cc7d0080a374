use Rattle.std.proofs.Common.{◌≡◌, sym, ◌∙◌, subst, None, true}
use Rattle.mars_machine.specs.Machines.{SeenMachine}
use Rattle.mars_session.specs.AskingInside.{IsAskGoing, ending_at}
use Rattle.mars_session.proofs.AskSteps.{started_asks}
use Rattle.mars_session.proofs.asking.begin_ask.Goals as goal

pub returns-in_ok-new-in-None : goal.returns-in_ok-new-in-None
returns-in_ok-new-in-None c =
    let none : ending_at c.args.ask.now.most 0 true 0 c.args.budget ≡ None = sym c.end_at_once.ensures ∙ c.in-None.is in
    let started = c.in_ok-new-in-None.ensures.ok ∙ c.in_ok-machine-in-None.ensures in
    (started, subst (λ (m : SeenMachine). IsAskGoing c.args.budget m 0) (sym started) (started_asks c.args.rules.now c.args.ask.now c.args.kept.now c.args.budget none))
