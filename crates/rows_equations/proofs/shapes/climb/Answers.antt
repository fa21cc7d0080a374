use Rattle.std.proofs.Common.{◌≡◌, ◌<◌, ◌≤◌, ◌+◌, ◌∷◌, [], length, length-append, ap, ◌∙◌, arith}
use Rattle.mars_tree.specs.Graph.{free_leaf}
use Rattle.mars_store.specs.System.{System, with_node}
use Rattle.mars_store.proofs.CallerLemmas.{marks-push, marks-kept, grows-node}
use Rattle.rows_equations.proofs.shapes.climb.Goals as goal

pub loop-preserved : goal.loop-preserved
loop-preserved c =
    let size : length c.add_free-in-loop.new.self.nodes ≡ length c.bind_free.new.store.nodes + 1 =
    ap (λ (s : System). length s.nodes) c.in_ok-var-2.ensures.ok ∙ length-append c.bind_free.new.store.nodes (free_leaf ∷ []) in
    let more : length c.loop.store.nodes ≤ length c.bind_free.new.store.nodes = c.bind_free.ensures.more_nodes in
    let here : c.in_ok-var-2.var ≡ length c.bind_free.new.store.nodes = c.in_ok-var-2.ensures.node in
    let end_in : c.args.end < length c.loop.store.nodes = c.loop.invariant.end_in in
    record {
      var_in = omega (arith, size, here);
      end_in = omega (arith, size, more, end_in);
      marks = rw (c.in_ok-push.ensures.items, c.in_ok-var-2.ensures.ok)
          (marks-kept c.bind_free.new.store (with_node c.bind_free.new.store free_leaf) _ (grows-node c.bind_free.new.store free_leaf)
          (marks-kept c.loop.store c.bind_free.new.store _ c.bind_free.ensures
          (marks-push c.loop.store c.loop.marks.items c.mark.result c.mark.ensures.system c.loop.invariant.marks c.mark.ensures.mark)));
    }
