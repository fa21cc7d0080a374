use Rattle.std.proofs.Common.{ap, ◌∙◌, List, length}
use Rattle.mars_tree.specs.declared.label.NameId.{NameId}
use Rattle.mars_tree.specs.Graph.{Node}
use Rattle.mars_session.proofs.Turning.{trees_count}
use Rattle.mars_session.proofs.session.open_ask.Goals as goal

pub begin_ask-requires-clause-kept : goal.begin_ask-requires-clause-kept
begin_ask-requires-clause-kept c =
    ap (λ (l : List (List Node)). length l) c.deref.ensures.value
    ∙ trees_count c.args.map.now c.as_slice.result.now c.in-Some.kept.items (rw c.in-Some.is at c.in_ok-kept_trees.ensures)
    ∙ ap (λ (l : List NameId). length l) c.as_slice.ensures
