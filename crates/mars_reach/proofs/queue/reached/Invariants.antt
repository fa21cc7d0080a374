use Rattle.std.proofs.Common.{◌≡◌, ◌<◌, ◌≤◌, ◌-◌, ◌++◌, [], ℕ, length, take, All}
use Rattle.std.specs.List.{flat_map}
use Rattle.mars_tree.specs.Graph.{kids_of}
use Rattle.mars_reach.specs.Order.{met_after, IsReached}
use Rattle.mars_reach.proofs.queue.reached.Given as goal

abbrev pub invariant-loop-next : goal.invariant-loop-next
invariant-loop-next l = record {
  within : l.next ≤ length l.order;
  met : met_after [] (l.roots ++ flat_map (kids_of l.graph) (take l.next l.order)) ≡ l.order;
  early : (i : ℕ) → i < l.next → i < length (met_after [] (l.roots ++ flat_map (kids_of l.graph) (take i l.order)));
  in_range : All (λ n. n < length l.graph) l.order;
  reached : All (IsReached l.graph l.roots) l.order;
}

abbrev pub decreases-loop-next : goal.decreases-loop-next
decreases-loop-next l = length l.graph - l.next
