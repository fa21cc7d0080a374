use Rattle.std.proofs.Common.{refl, ap, sym, ◌∙◌, Option, Some}
use Rattle.mars_session.specs.declared.named.Named.{Named}
use Rattle.mars_session.specs.SessionPoints.{under_name}
use Rattle.mars_session.specs.CommandActs.{Pins, pin_act}
use Rattle.mars_session.proofs.acts.pin_act.Goals as goal

pub returns-in-Some-None : goal.returns-in-Some-None
returns-in-Some-None c =
    let n = c.in-Some-None.field-0-0.now in (
      Pins c.args.new n,
      sym (ap (λ (o : Option Named). pin_act c.args.new o (under_name c.args.names.now c.args.new)) c.in-Some-None.ensures ∙ ap (λ (q : Option Named). pin_act c.args.new (Some n) q) c.in-Some-None.ensures'),
      (n, c.in-Some-None.ensures, refl),
    )
