use Rattle.std.proofs.Common.{rules, ◌++◌, ◌∷◌, [], ℕ, List, arith, slice_index_or, subst, sym, take, ◌∙◌}
use Rattle.std.proofs.lemmas.Option.{slice_get-get_or}
use Rattle.mars_comp.proofs.Gets.{take_next}
use Rattle.mars_first.specs.LinksInside.{AreClasses}
use Rattle.mars_first.proofs.Linking.{kept_none, kept_more, classes_start, classes_more, roots_kept, roots_more, roots_start}
use Rattle.mars_first.proofs.links.classes_of.Goals as goal

pub loop-node-init : goal.loop-node-init
loop-node-init c = record {
  kept = kept_none c.args.links.now.items c.requires.falling;
  marks = search rules;
  classes = classes_start c.args.links.now.items c.new-heads.result.items c.new-slots.result.items c.new-heads.ensures.items c.new-slots.ensures.items;
  roots = roots_start c.args.links.now.items c.new-heads.result.items c.new-heads.ensures.items;
}

pub loop-node-preserved : goal.loop-node-preserved
loop-node-preserved c =
    let i = c.loop-node.invariant in
    let nodes = c.args.nodes.now in
    let node = slice_index_or nodes c.loop-node.node-index 0 in
    let at = slice_get-get_or nodes c.loop-node.node-index 0 (omega arith) in
    let links = c.args.links.now.items in
    let heads = c.slot_of.new.heads.items in
    let with = c.in_ok-slot.ensures.heads in
    record {
      kept = kept_more links c.loop-node.links.items c.find-head.new.links.items i.kept c.find-head.ensures.kept;
      marks = c.in_ok-slot.ensures.size ∙ i.marks;
      classes = subst (λ (ns : List ℕ). AreClasses links ns heads c.push.new.self.items) (sym (take_next nodes c.loop-node.node-index node at))
          (subst (AreClasses links (take c.loop-node.node-index nodes ++ node ∷ []) heads) (sym c.in_ok-push.ensures.items)
          (classes_more links c.loop-node.links.items (take c.loop-node.node-index nodes) c.loop-node.heads.items c.loop-node.slots.items node c.find-head.result c.in_ok-slot.slot heads i.kept i.classes with c.find-head.ensures.leads));
      roots = roots_more c.find-head.new.links.items c.loop-node.heads.items c.find-head.result c.in_ok-slot.slot heads
          (roots_kept c.loop-node.links.items c.find-head.new.links.items c.loop-node.heads.items c.find-head.ensures.kept i.roots) c.find-head.ensures.root with;
    }
