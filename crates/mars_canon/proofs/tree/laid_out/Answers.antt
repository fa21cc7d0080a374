use Rattle.std.proofs.Common.{◌≡◌, ◌<◌, ◌≤◌, ◌++◌, ◌∷◌, [], ℕ, List, ◌∙◌, sym, subst, ap, arith, length, map, take, Some}
use Rattle.std.proofs.lemmas.List.{take_all, length-map}
use Rattle.mars_tree.specs.declared.label.Label.{Label}
use Rattle.mars_tree.specs.Graph.{Node}
use Rattle.mars_tree.specs.Canonical.{IsCanonical}
use Rattle.mars_tree.specs.Equality.{all_kids}
use Rattle.mars_canon.proofs.Forms.{one_root_canonical}
use Rattle.mars_canon.proofs.Laying.{labels_in, laid_from_graph, nodes_from_graph, labels_more, kids_more, starts_more}
use Rattle.mars_canon.proofs.tree.laid_out.Goals as goal

pub loop-node-preserved : goal.loop-node-preserved
loop-node-preserved c =
    let within : c.loop-node.node < length c.args.canon.now.nodes = omega arith in
    record {
      labels = labels_more c.args.canon.now.nodes c.len.ensures.graph c.loop-node.node within c.loop-node.labels.items c.push.new.self.items c.unwrap.result c.loop-node.invariant.labels (sym c.unwrap.ensures ∙ c.label.ensures) c.in_ok-push.ensures.items;
      starts = starts_more c.args.canon.now.nodes c.len.ensures.graph c.loop-node.node within c.loop-node.labels.items c.push.new.self.items c.unwrap.result c.loop-node.starts.items c.push-in-loop-node.new.self.items c.loop-node.kids.items c.len-in-loop-node.result
          c.loop-node.invariant.labels c.in_ok-push.ensures.items c.loop-node.invariant.starts c.loop-node.invariant.kids (c.len-in-loop-node.ensures ∙ c.loop-node.kids.ok.0) c.in_ok-push-2.ensures.items;
      kids = kids_more c.args.canon.now.nodes c.len.ensures.graph c.loop-node.node within c.loop-node.kids.items c.push_kids.new.into.items c.loop-node.invariant.kids (c.in_ok-push_kids.ensures ∙ ap (λ ks. c.loop-node.kids.items ++ ks) c.kids.ensures.kids);
    }

-- the graph whose nodes are all done
all_done : (g : List Node) (labels : List Label) (kids : List ℕ) (node : ℕ) → length g ≤ node → map Some labels ≡ labels_in (take node g) → kids ≡ all_kids (take node g) → (map Some labels ≡ labels_in g) × (kids ≡ all_kids g)
all_done g labels kids node h e f = (e ∙ ap labels_in (take_all node g h), f ∙ ap all_kids (take_all node g h))

pub returns : goal.returns
returns c =
    let done = all_done c.args.canon.now.nodes c.loop-node.labels.items c.loop-node.kids.items c.loop-node.node (omega arith) c.loop-node.invariant.labels c.loop-node.invariant.kids in
    nodes_from_graph (map Some c.loop-node.labels.items) c.loop-node.kids.items c.args.canon.now.nodes c.len.ensures.graph done.0 done.1

pub invariant_of-result : goal.invariant_of-result
invariant_of-result c =
    let done = all_done c.args.canon.now.nodes c.loop-node.labels.items c.loop-node.kids.items c.loop-node.node (omega arith) c.loop-node.invariant.labels c.loop-node.invariant.kids in
    record {
      laid = laid_from_graph (map Some c.loop-node.labels.items) c.loop-node.starts.items c.loop-node.kids.items c.args.canon.now.nodes c.len.ensures.graph done.0 c.loop-node.invariant.starts done.1;
      canonical = subst (λ (g : List Node). IsCanonical g (0 ∷ [])) (sym (returns c)) (one_root_canonical c.args.canon.now.nodes c.args.canon.now.roots c.len.ensures.canonical c.requires.root);
      few = omega (arith, length-map c.loop-node.labels.items (λ (l : Label). Some l), ap length done.0, length-map c.args.canon.now.nodes (λ (node : Node). node.label), c.requires.few);
    }
