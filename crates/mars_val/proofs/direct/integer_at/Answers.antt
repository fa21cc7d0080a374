use mir.Val.{SFits}
use Rattle.std.proofs.Common.{◌∙◌, ap, sym, Some, w64, rules}
use Rattle.std.proofs.lemmas.Int.{to_z-of_z}
use Rattle.mars_val.specs.Number.HasNumber.{itself}
use Rattle.mars_val.proofs.direct.integer_at.Goals as goal

pub returns-in-Int : goal.returns-in-Int
returns-in-Int c =
    let fits : SFits w64 c.in-Int.number = search rules in
    rw (to_z-of_z w64 c.in-Int.number fits) (itself (sym c.in_ok-number.ensures.label ∙ ap Some c.in-Int.is))
