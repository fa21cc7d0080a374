use Rattle.std.proofs.Common.{◌∙◌, ap, sym, List, [], ◌∷◌, ◌++◌, drop, ◌+◌}
use Rattle.std.proofs.lemmas.List.{drop_more}
use Rattle.mars_tree.specs.Graph.{Node}
use Rattle.mars_tree.specs.declared.label.NameId.{NameId}
use Rattle.mars_session.specs.SessionPoints.{named_trees}
use Rattle.mars_session.proofs.Trees.{after_trees, trees_on, trees_stop}
use Rattle.mars_session.proofs.maps.kept_trees.Goals as goal

pub returns-in-None : goal.returns-in-None
returns-in-None c =
    let names = c.args.names.now in
    let kept = c.args.kept.now in
    let i = c.loop-name.name-index in
    c.loop-name.invariant ∙ ap (λ (l : List NameId). after_trees c.loop-name.trees.items (named_trees names l)) (drop_more kept i (record { 0 = 0 }) c.loop-name-test.true)
    ∙ trees_stop names _ (drop (i + 1) kept) c.loop-name.trees.items c.in-None.ensures

pub loop-name-preserved : goal.loop-name-preserved
loop-name-preserved c =
    let names = c.args.names.now in
    let kept = c.args.kept.now in
    let i = c.loop-name.name-index in
    c.loop-name.invariant ∙ ap (λ (l : List NameId). after_trees c.loop-name.trees.items (named_trees names l)) (drop_more kept i (record { 0 = 0 }) c.loop-name-test.true)
    ∙ trees_on names _ (drop (i + 1) kept) c.in-Some.named.now c.loop-name.trees.items c.in-Some.ensures
    ∙ ap (λ (l : List (List Node)). after_trees l (named_trees names (drop (i + 1) kept))) (ap (λ (t : List Node). c.loop-name.trees.items ++ t ∷ []) (sym c.in_ok-copy-in-Some.ensures) ∙ sym c.in_ok-push-in-Some.ensures.items)
