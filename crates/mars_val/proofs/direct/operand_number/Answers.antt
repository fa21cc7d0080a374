use mir.Val.{SFits}
use Rattle.std.proofs.Common.{◌∙◌, ap, sym, Some, w64, rules}
use Rattle.std.proofs.lemmas.Int.{to_z-of_z}
use Rattle.mars_tree.specs.Graph.{label_of}
use Rattle.mars_store.proofs.CallerLemmas.{resolve-unbound}
use Rattle.mars_val.specs.Number.HasNumber.{itself}
use Rattle.mars_val.proofs.Numbers.{number-from-end}
use Rattle.mars_val.proofs.direct.operand_number.Goals as goal

pub over_integers-requires : goal.over_integers-requires
over_integers-requires c =
    let s = c.args.store.now in
    let label = ap (label_of s.nodes) (resolve-unbound s.bound c.deref-end.result c.deref-end.ensures.unbound) ∙ sym c.in_ok-label.ensures ∙ ap Some c.in_ok-operation_of-in_default.ensures in
    record { inside = c.deref-end.ensures.inside; label = label }

pub returns-in-Int : goal.returns-in-Int
returns-in-Int c =
    let fits : SFits w64 c.in-Int.number = search rules in
    rw (to_z-of_z w64 c.in-Int.number fits) (itself (ap (label_of c.args.store.now.nodes) (sym c.deref-end.ensures.end) ∙ sym c.in_ok-label.ensures ∙ ap Some c.in-Int.is))

pub returns-in_ok-operation_of-in_default : goal.returns-in_ok-operation_of-in_default
returns-in_ok-operation_of-in_default c =
    let s = c.args.store.now in
    number-from-end s c.args.node c.deref-end.result c.over_integers.result c.deref-end.ensures.end (resolve-unbound s.bound c.deref-end.result c.deref-end.ensures.unbound) c.over_integers.ensures
