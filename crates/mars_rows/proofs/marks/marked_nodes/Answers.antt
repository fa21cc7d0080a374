use Rattle.std.proofs.Common.{ℕ, Bool, false, slice_index_or, ap, ◌∙◌}
use Rattle.mars_reach.specs.Order.{with_number}
use Rattle.mars_rows.proofs.Keeping.{kept_push, kept_skip}
use Rattle.mars_rows.proofs.marks.marked_nodes.Goals as goal
use Rattle.mars_rows.proofs.marks.marked_nodes.Goals.{then-marks-node+in_ok-meet, else-marks-node}

pub loop-node-preserved : goal.loop-node-preserved
loop-node-preserved c =
    let q : ℕ → Bool = λ n. slice_index_or c.args.marks.now n false in
    let node = c.loop-node.node in
    elim c.if-marks-node.branch [
      | then-marks-node+in_ok-meet w ↦ w.order-is ∙ w.in_ok-meet.ensures.ok ∙ ap (λ xs. with_number xs node) c.loop-node.invariant ∙ kept_push q node w.if-marks-node.true
      | else-marks-node w ↦ w.order-is ∙ c.loop-node.invariant ∙ kept_skip q node w.if-marks-node.false
    ]
