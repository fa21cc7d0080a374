use Rattle.std.proofs.Common.{refl, ap, sym, Option}
use Rattle.mars_session.specs.declared.named.Named.{Named}
use Rattle.mars_session.specs.CommandActs.{Drops, drop_act}
use Rattle.mars_session.proofs.acts.drop_act.Goals as goal

pub returns-in-Some : goal.returns-in-Some
returns-in-Some c =
    let n = c.in-Some.field-0.now in
    (Drops c.args.name n, sym (ap (λ (o : Option Named). drop_act c.args.name o) c.in-Some.ensures), (n, c.in-Some.ensures, refl))
