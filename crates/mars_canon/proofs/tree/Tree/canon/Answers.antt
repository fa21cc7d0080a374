use Rattle.std.proofs.Common.{[], ◌∷◌, ◌∙◌, sym, ap, length, map, Some}
use Rattle.mars_tree.specs.Stored.{kid_count}
use Rattle.mars_canon.specs.CanonLaws.{one_rooted}
use Rattle.mars_canon.proofs.Plain.{canon_of_tree, is_tree, remade}
use Rattle.mars_canon.proofs.tree.Tree.canon.Goals as goal

pub from_lists-requires-clause-size : goal.from_lists-requires-clause-size
from_lists-requires-clause-size c = ap length c.in_ok-kids.ensures ∙ ap length c.deref-2.ensures.value ∙ c.self.invariant.laid.size ∙ ap kid_count (sym (c.in_ok-labels.ensures ∙ ap (map Some) c.deref.ensures.value))

pub new-requires-clause-graph : goal.new-requires-clause-graph
new-requires-clause-graph c = (canon_of_tree c.args.self.now c.in_ok-graph.graph c.from_list.result (is_tree c.self.inside.labels.items c.self.inside.kids.items c.args.self.now c.self.view_is c.self.inside.starts.items c.self.invariant.laid c.self.invariant.canonical c.self.invariant.few) (remade c.in_ok-graph.graph c.in_ok-labels.labels.items c.in_ok-kids.kids.items c.self.inside.labels.items c.self.inside.kids.items c.args.self.now c.in_ok-graph.ensures (c.in_ok-labels.ensures ∙ ap (map Some) c.deref.ensures.value) (c.in_ok-kids.ensures ∙ c.deref-2.ensures.value) c.self.view_is) (c.from_list.ensures ∙ c.in_ok-vec.ensures.items)).graph

pub new-requires-clause-canonical : goal.new-requires-clause-canonical
new-requires-clause-canonical c = (canon_of_tree c.args.self.now c.in_ok-graph.graph c.from_list.result (is_tree c.self.inside.labels.items c.self.inside.kids.items c.args.self.now c.self.view_is c.self.inside.starts.items c.self.invariant.laid c.self.invariant.canonical c.self.invariant.few) (remade c.in_ok-graph.graph c.in_ok-labels.labels.items c.in_ok-kids.kids.items c.self.inside.labels.items c.self.inside.kids.items c.args.self.now c.in_ok-graph.ensures (c.in_ok-labels.ensures ∙ ap (map Some) c.deref.ensures.value) (c.in_ok-kids.ensures ∙ c.deref-2.ensures.value) c.self.view_is) (c.from_list.ensures ∙ c.in_ok-vec.ensures.items)).canonical

pub new-requires-clause-roots_in : goal.new-requires-clause-roots_in
new-requires-clause-roots_in c = (canon_of_tree c.args.self.now c.in_ok-graph.graph c.from_list.result (is_tree c.self.inside.labels.items c.self.inside.kids.items c.args.self.now c.self.view_is c.self.inside.starts.items c.self.invariant.laid c.self.invariant.canonical c.self.invariant.few) (remade c.in_ok-graph.graph c.in_ok-labels.labels.items c.in_ok-kids.kids.items c.self.inside.labels.items c.self.inside.kids.items c.args.self.now c.in_ok-graph.ensures (c.in_ok-labels.ensures ∙ ap (map Some) c.deref.ensures.value) (c.in_ok-kids.ensures ∙ c.deref-2.ensures.value) c.self.view_is) (c.from_list.ensures ∙ c.in_ok-vec.ensures.items)).roots_in

pub returns : goal.returns
returns c = c.new.ensures ∙ one_rooted (record { nodes = c.in_ok-graph.graph; roots = c.from_list.result }) (record { nodes = c.args.self.now; roots = 0 ∷ [] }) (remade c.in_ok-graph.graph c.in_ok-labels.labels.items c.in_ok-kids.kids.items c.self.inside.labels.items c.self.inside.kids.items c.args.self.now c.in_ok-graph.ensures (c.in_ok-labels.ensures ∙ ap (map Some) c.deref.ensures.value) (c.in_ok-kids.ensures ∙ c.deref-2.ensures.value) c.self.view_is) (c.from_list.ensures ∙ c.in_ok-vec.ensures.items)
