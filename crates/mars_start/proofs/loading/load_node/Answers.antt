use Rattle.std.proofs.Common.{◌<◌, length, map, slice_index, All, sym, ◌∙◌, subst, refl}
use Rattle.std.proofs.lemmas.Result.{on_ok_weaker}
use Rattle.mars_tree.specs.Graph.{kids_of, labelled}
use Rattle.mars_start.proofs.LoadedTrees.{node-is}
use Rattle.mars_start.proofs.LoadedSteps.{own-free, own-end, last-elsewhere, bound-is}
use Rattle.mars_start.proofs.loading.load_node.Goals as goal

pub add-requires-clause-inside : goal.add-requires-clause-inside
add-requires-clause-inside c =
    subst (λ ks. All (λ kid. kid < length c.args.store.now.nodes) ks) (sym (c.deref.ensures.value ∙ c.in_ok-push_kids.ensures))
    (node-is c.args.tree.now c.args.nodes.now (length c.args.store.now.nodes) c.args.node c.requires.graph c.requires.loaded.1.size c.requires.loaded.1.inside c.requires.within).in_range

pub bind-requires-clause-free : goal.bind-requires-clause-free
bind-requires-clause-free c =
    own-free c.requires.loaded.0 c.args.store.now c.add.new.self c.args.tree.now c.args.nodes.now c.args.node c.index-nodes-node.result c.in_ok-labelled.labelled
    (labelled c.label.result c.deref.result.now) c.requires.within c.requires.loaded.1 c.index-nodes-node.is c.in_ok-labelled.ensures.ok c.in_ok-labelled.ensures.node

pub bind-requires-clause-end : goal.bind-requires-clause-end
bind-requires-clause-end c =
    own-end c.requires.loaded.0 c.args.store.now c.add.new.self c.args.tree.now c.args.nodes.now c.args.node c.index-nodes-node.result c.in_ok-labelled.labelled
    (labelled c.label.result c.deref.result.now) c.requires.within c.requires.loaded.1 c.index-nodes-node.is c.in_ok-labelled.ensures.ok c.in_ok-labelled.ensures.node

pub bind-requires-clause-elsewhere : goal.bind-requires-clause-elsewhere
bind-requires-clause-elsewhere c =
    last-elsewhere c.requires.loaded.0 c.args.store.now c.add.new.self c.args.tree.now c.args.nodes.now c.args.node c.index-nodes-node.result c.in_ok-labelled.labelled
    (labelled c.label.result c.deref.result.now) c.requires.within c.requires.loaded.1 c.index-nodes-node.is c.in_ok-labelled.ensures.ok c.in_ok-labelled.ensures.node

pub returns-clause-ok : goal.returns-clause-ok
returns-clause-ok c =
    on_ok_weaker c.bind.result
    (λ e. bound-is c.requires.loaded.0 c.args.store.now c.add.new.self c.args.tree.now c.args.nodes.now c.args.node c.index-nodes-node.result c.in_ok-labelled.labelled
    (labelled c.label.result c.deref.result.now) c.requires.within c.requires.loaded.1 c.index-nodes-node.is c.in_ok-labelled.ensures.ok c.in_ok-labelled.ensures.node
    c.bind.new.self c.label.result (map (slice_index c.args.nodes.now) (kids_of c.args.tree.now c.args.node)) c.deref.result.now refl (c.deref.ensures.value ∙ c.in_ok-push_kids.ensures) refl c.label.ensures e)
    c.bind.ensures.ok
