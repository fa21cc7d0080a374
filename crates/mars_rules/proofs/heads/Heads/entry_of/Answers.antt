use Rattle.std.proofs.Common.{◌≡◌, ap, sym, ◌∙◌}
use Rattle.mars_rules.specs.PlacesInside.{places_in, places_under}
use Rattle.mars_rules.proofs.Filing.{key_decides}
use Rattle.mars_rules.proofs.heads.Heads.entry_of.Goals as goal

pub returns-then-eq : goal.returns-then-eq
returns-then-eq c =
    let same : c.in-Some.own.now ≡ c.args.key.now = (key_decides c.in-Some.own.now c.args.key.now).0 (sym c.eq.ensures ∙ c.if-eq.true) in
    c.deref.ensures.value ∙ ap places_in (sym c.in-Some.ensures.value) ∙ ap (places_under c.self.inside.filed.entries) same ∙ ap (λ es. places_under es c.args.key.now) c.self.view_is
