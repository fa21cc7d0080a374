use Rattle.std.proofs.Common.{◌≡◌, take, map, Some}
use Rattle.mars_tree.specs.Graph.{Node}
use Rattle.mars_tree.specs.Stored.{starts_from}
use Rattle.mars_tree.specs.Equality.{all_kids}
use Rattle.mars_canon.proofs.tree.laid_out.Given as goal

abbrev pub invariant-loop-node : goal.invariant-loop-node
invariant-loop-node l = record {
  labels : map Some l.labels.items ≡ map (λ (node : Node). node.label) (take l.node l.canon.nodes);
  starts : l.starts.items ≡ starts_from 0 (map Some l.labels.items);
  kids : l.kids.items ≡ all_kids (take l.node l.canon.nodes);
}
