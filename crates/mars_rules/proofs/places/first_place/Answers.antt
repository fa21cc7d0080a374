use Rattle.std.proofs.Common.{◌≡◌, ap, sym, ◌∙◌, subst, []}
use Rattle.std.specs.Option.{option_copied}
use Rattle.mars_rules.specs.PlacesInside.{IsRising, IsFirstFrom, places_in, places_of_key}
use Rattle.mars_rules.proofs.Filing.{first_is, first_none, places_rise}
use Rattle.mars_rules.proofs.places.first_place.Goals as goal

pub returns-in-Some : goal.returns-in-Some
returns-in-Some c = λ keys filed.
    let places : c.deref.result.now ≡ places_of_key 0 keys c.args.key.now =
    c.deref.ensures.value ∙ ap places_in (ap option_copied (sym c.in-Some.is) ∙ c.get.ensures.value) ∙ filed c.args.key.now in
    first_is keys c.args.key.now c.args.from c.first_from.result
    (subst (λ ns. IsFirstFrom ns c.args.from c.first_from.result) places (c.first_from.ensures (subst IsRising (sym places) (places_rise 0 keys c.args.key.now))))

pub returns-in-None : goal.returns-in-None
returns-in-None c = λ keys filed.
    let places : [] ≡ places_of_key 0 keys c.args.key.now = ap places_in (ap option_copied (sym c.in-None.is) ∙ c.get.ensures.value) ∙ filed c.args.key.now in
    first_none keys c.args.key.now c.args.from (sym places)
