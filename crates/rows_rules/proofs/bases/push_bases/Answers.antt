use Rattle.std.proofs.Common.{All, subst, sym}
use Rattle.std.proofs.lemmas.List.Elements.{All-get_or}
use Rattle.mars_scripts.specs.WellFormed.{IsWellFormedScript}
use Rattle.rows_rules.proofs.bases.push_bases.Goals as goal

pub base_of-requires-clause-session : goal.base_of-requires-clause-session
base_of-requires-clause-session c =
    subst IsWellFormedScript (sym c.session-item.is)
    (All-get_or IsWellFormedScript c.as_slice-session-items.result.now c.loop-session.session-index c.session-item.result c.loop-session-test.true
    (subst (λ scripts. All IsWellFormedScript scripts) (sym c.as_slice-session-items.ensures) c.requires.sessions))
