use Rattle.std.proofs.Common.{◌≡◌, ◌<◌, length, slice_index, get_or, sym, ap, ◌∙◌, subst, arith}
use Rattle.std.specs.List.{range_with_len}
use Rattle.std.proofs.lemmas.List.{get_or_default}
use Rattle.mars_store.specs.System.{System}
use Rattle.mars_tree.specs.Graph.{free_leaf}
use Rattle.mars_start.specs.LoadingInside.{with_frees, with_value, node_among, AreNodesLoaded, IsTreeLoaded}
use Rattle.mars_start.proofs.LoadedTrees.{loading-starts, loading-next, loading-ends}
use Rattle.mars_start.proofs.loading.load_tree.Goals as goal

pub loop-node-init : goal.loop-node-init
loop-node-init c =
    subst (λ (s : System). AreNodesLoaded c.args.store.now c.in_ok-nodes.nodes.items c.args.tree.now s 0)
    (ap (with_frees c.args.store.now) (sym c.len.ensures.len) ∙ sym c.in_ok-nodes.ensures.store)
    (loading-starts c.args.store.now c.args.tree.now c.in_ok-nodes.nodes.items c.requires (c.in_ok-nodes.ensures.nodes ∙ ap (range_with_len (length c.args.store.now.nodes)) c.len.ensures.len))

pub loop-node-preserved : goal.loop-node-preserved
loop-node-preserved c =
    let tree = c.len.ensures.tree in
    let h : c.loop-node.node < length c.args.tree.now = omega (arith, c.loop-node-test.true, c.len-node-end.ensures.len) in
    loading-next c.args.store.now c.loop-node.store c.load_node.new.store c.args.tree.now c.in_ok-nodes.nodes.items c.loop-node.node tree.graph tree.ground h c.loop-node.invariant
    c.in_ok-load_node.ensures.system
    (subst (λ ns. c.load_node.new.store ≡ with_value c.loop-node.store (slice_index ns c.loop-node.node) (node_among ns (get_or c.args.tree.now c.loop-node.node free_leaf))) c.deref.ensures.value
    c.in_ok-load_node.ensures.ok)

pub returns : goal.returns
returns c =
    let tree = c.len.ensures.tree in
    let some : 0 < length c.args.tree.now = tree.root in
    let same = c.loop-node.invariant.size in
    subst (IsTreeLoaded c.args.store.now c.loop-node.store c.args.tree.now) (get_or_default c.in_ok-nodes.nodes.items 0 0 c.index.result.now (omega arith) ∙ sym c.index.ensures)
    (loading-ends c.args.store.now c.in_ok-nodes.nodes.items c.args.tree.now c.loop-node.store c.loop-node.node tree.graph tree.ground some
    (omega (arith, c.loop-node-test.false, c.len-node-end.ensures.len)) c.loop-node.invariant)
