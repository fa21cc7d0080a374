use Rattle.std.proofs.Common.{◌≡◌, ℕ, ap, sym, ◌∙◌}
use Rattle.std.specs.Global.{Vec}
use Rattle.mars_rules.specs.PlacesInside.{places_in}
use Rattle.mars_rules.proofs.Filing.{added-place}
use Rattle.mars_rules.proofs.places.file_place.Goals.{in-Some, in-None}
use Rattle.mars_rules.proofs.places.file_place.Goals as goal

pub returns : goal.returns
returns c =
    let was : places_in c.swap_remove.result ≡ c.match-swap_remove.places.items = elim c.match-swap_remove.branch [
      | in-Some w ↦ ap places_in w.in-Some.is ∙ sym (ap (λ (v : Vec ℕ). v.items) w.places-is)
      | in-None w ↦ ap places_in w.in-None.is ∙ sym w.new-places.ensures.items ∙ sym (ap (λ (v : Vec ℕ). v.items) w.places-is)
    ] in
    added-place c.args.filed.now.entries c.swap_remove.new.self.entries c.insert.new.self.entries c.args.key c.args.place c.match-swap_remove.places.items c.push.new.self
    (ap places_in (sym c.swap_remove.ensures.value) ∙ was)
    c.swap_remove.ensures.updates.2 c.in_ok-insert.ensures.updates.1 c.in_ok-insert.ensures.updates.2 c.in_ok-push.ensures.items
