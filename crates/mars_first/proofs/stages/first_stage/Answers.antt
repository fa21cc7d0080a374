use Rattle.std.proofs.Common.{◌++◌, ◌∷◌, [], List, ap, ◌∙◌}
use Rattle.mars_first.specs.declared.stages.Stage.{Stage}
use Rattle.mars_first.proofs.stages.first_stage.Goals as goal

pub returns : goal.returns
returns c =
    let stage : Stage = record { from = 0; kid = 0; nodes = c.extend_from_slice.new.self } in
    record {
      stage = stage;
      is = c.in_ok-push.ensures.items ∙ ap (λ (xs : List Stage). xs ++ stage ∷ []) c.new-stages.ensures.items;
      nodes = c.in_ok-extend_from_slice.ensures.items ∙ ap (λ xs. xs ++ c.args.candidates.now) c.new-nodes.ensures.items;
    }
