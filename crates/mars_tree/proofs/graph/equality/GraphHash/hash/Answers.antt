use Rattle.std.proofs.Common.{◌≡◌, List, ℕ, Option, map, sym, ap, ◌∙◌}
use Rattle.std.specs.List.{fold}
use Rattle.std.specs.Hash.{slice, option, usize, fed_then}
use Rattle.mars_tree.specs.declared.label.Label.{Label}
use Rattle.mars_tree.specs.Graph.{Node}
use Rattle.mars_tree.specs.Equality.{label_writes, all_kids}
use Rattle.mars_tree.proofs.Equal.{labels-nodes, all_kids-nodes}
use Rattle.mars_tree.proofs.graph.equality.GraphHash.hash.Goals as goal

pub returns : goal.returns
returns g c =
    let labels : c.self.inside.labels.items ≡ map (λ (node : Node). node.label) c.args.self.now = sym (labels-nodes c.self.inside.labels.items c.self.inside.kids.items) ∙ ap (λ (ns : List Node). map (λ (node : Node). node.label) ns) c.self.view_is in
    let kids : c.self.inside.kids.items ≡ all_kids c.args.self.now = sym (all_kids-nodes c.self.inside.labels.items c.self.inside.kids.items c.self.invariant.size) ∙ ap all_kids c.self.view_is in
    fed_then g.H.Hasher.write c.args.state.now c.hash.new.state c.hash-2.new.state (slice (option label_writes) (map (λ (node : Node). node.label) c.args.self.now)) (slice usize (all_kids c.args.self.now))
    (c.hash.ensures ∙ ap (λ (ls : List (Option Label)). fold g.H.Hasher.write c.args.state.now (slice (option label_writes) ls)) labels)
    (c.hash-2.ensures ∙ ap (λ (ks : List ℕ). fold g.H.Hasher.write c.hash.new.state (slice usize ks)) kids)
