use Rattle.std.proofs.Common.{subst}
use Rattle.std.proofs.lemmas.List.{take_all}
use Rattle.mars_rules.specs.PlacesInside.{AreFiledPlaces}
use Rattle.mars_rules.proofs.Filing.{filed-step}
use Rattle.mars_rules.proofs.places.file_places.Goals as goal

pub loop-place-preserved : goal.loop-place-preserved
loop-place-preserved c =
    filed-step c.args.keys.now c.loop-place.place _ c.loop-place.filed.entries c.file_place.new.filed.entries c.loop-place-test.true c.loop-place.invariant c.in_ok-file_place.ensures

pub returns : goal.returns
returns c = subst (λ ks. AreFiledPlaces ks c.loop-place.filed.entries) (take_all c.loop-place.place c.args.keys.now c.loop-place-test.false) c.loop-place.invariant
