use Rattle.std.proofs.Common.{◌≡◌, Some, sym, ap, ◌∙◌, w64, rules}
use mir.Val.{SFits}
use Rattle.std.proofs.lemmas.Int.{to_z-of_z}
use Rattle.mars_val.specs.Number.HasNumber.{itself}
use Rattle.mars_val.proofs.operand.next_of.Goals as goal

pub returns-in-Some-Int : goal.returns-in-Some-Int
returns-in-Some-Int c =
    let fits : SFits w64 c.in-Some-Int.number = search rules in
    rw (to_z-of_z w64 c.in-Some-Int.number fits) (itself (sym c.in-Some-Int.ensures.label ∙ ap Some c.in-Some-Int.field-0-is))
