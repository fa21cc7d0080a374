use Rattle.std.proofs.Common.{◌≡◌, List, ℕ, Some, map, sym, ap, ◌∙◌}
use Rattle.std.specs.List.{fold, filter_map}
use Rattle.std.specs.Hash.{slice, u16, fed_then}
use Rattle.mars_tree.specs.declared.label.Label.{Label}
use Rattle.mars_tree.specs.Graph.{Node}
use Rattle.mars_tree.specs.Equality.{label_writes, all_kids}
use Rattle.mars_tree.proofs.Equal.{all_kids-nodes}
use Rattle.mars_canon.proofs.Plain.{plain-labels}
use Rattle.mars_canon.proofs.tree.TreeHash.hash.Goals as goal

pub returns : goal.returns
returns g c =
    let labels : c.self.inside.labels.items ≡ filter_map (λ (node : Node). node.label) c.args.self.now = sym (plain-labels c.self.inside.labels.items c.self.inside.kids.items c.args.self.now c.self.view_is) in
    let kids : c.self.inside.kids.items ≡ all_kids c.args.self.now = sym (all_kids-nodes (map Some c.self.inside.labels.items) c.self.inside.kids.items c.self.invariant.laid.size) ∙ ap all_kids c.self.view_is in
    fed_then g.H.Hasher.write c.args.state.now c.hash.new.state c.hash-2.new.state (slice label_writes (filter_map (λ (node : Node). node.label) c.args.self.now)) (slice u16 (all_kids c.args.self.now))
    (c.hash.ensures ∙ ap (λ (ls : List Label). fold g.H.Hasher.write c.args.state.now (slice label_writes ls)) labels)
    (c.hash-2.ensures ∙ ap (λ (ks : List ℕ). fold g.H.Hasher.write c.hash.new.state (slice u16 ks)) kids)
