use Rattle.std.proofs.Common.{length, ap, ◌∙◌, sym}
use Rattle.mars_tree.specs.Graph.{free_leaf}
use Rattle.mars_store.specs.System.{System, with_node}
use Rattle.mars_start.proofs.LoadedTrees.{frees-next}
use Rattle.mars_start.proofs.LoadedSteps.{variable-next}
use Rattle.mars_start.proofs.loading.add_variables.Goals as goal

pub loop-preserved : goal.loop-preserved
loop-preserved c = record {
  store = c.in_ok-add_free.ensures.ok ∙ ap (λ s. with_node s free_leaf) c.loop.invariant.store ∙ sym (frees-next c.args.store.now c.loop.counter);
  nodes = variable-next c.args.store.now c.loop.counter c.in_ok-add_free.field-0 c.loop.nodes.items c.push.new.self.items
      (c.in_ok-add_free.ensures.node ∙ ap (λ (s : System). length s.nodes) c.loop.invariant.store) c.loop.invariant.nodes c.in_ok-push.ensures.items;
}
