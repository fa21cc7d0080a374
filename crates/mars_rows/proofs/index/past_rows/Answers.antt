use Rattle.std.proofs.Common.{◌+◌, [], ◌∷◌, ◌++◌, ap, sym, ◌∙◌}
use Rattle.mars_rows.proofs.FreshRows.{range_more}
use Rattle.mars_rows.proofs.index.past_rows.Goals as goal

pub loop-node-preserved : goal.loop-node-preserved
loop-node-preserved c =
    c.in_ok-push.ensures.items ∙ ap (λ xs. xs ++ (c.args.next + c.loop-node.node) ∷ []) c.loop-node.invariant ∙ sym (range_more c.args.next c.loop-node.node)
