use Rattle.std.proofs.Common.{◌∙◌, ap, sym, List, [], ◌∷◌, ◌++◌, take, ◌+◌}
use Rattle.mars_base.proofs.ListFacts.{take-next}
use Rattle.mars_tree.specs.declared.label.NameId.{NameId}
use Rattle.mars_clauses.proofs.variables.VariableList.to_names.Goals as goal

pub loop-place-preserved : goal.loop-place-preserved
loop-place-preserved c =
    let k = c.loop-place.place in
    let name = c.index.result.now in
    c.in_ok-push.ensures.ok ∙ ap (λ (names : List NameId). names ++ name ∷ []) c.loop-place.invariant
    ∙ ap (λ (names : List NameId). take k names ++ name ∷ []) (sym c.self.view_is)
    ∙ sym (take-next c.self.inside.names.keys k name c.index.ensures)
    ∙ ap (λ (names : List NameId). take (k + 1) names) c.self.view_is
