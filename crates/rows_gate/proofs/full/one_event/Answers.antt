use Rattle.std.proofs.Common.{◌≡◌, ap, sym, ◌∙◌}
use Rattle.mars_session.specs.SessionPoints.{SessionPart}
use Rattle.mars_gate.proofs.SessionLemmas.{session_later}
use Rattle.rows_gate.proofs.full.one_event.Goals as goal

pub returns-clause-number : goal.returns-clause-number
returns-clause-number g c =
    let later = session_later _ _ _ _ _ _ _ c.event.result c.event.ensures.follows in
    c.event.ensures.number ∙ c.requires.number ∙ sym (ap (λ (p : SessionPart). p.who) later.part)
