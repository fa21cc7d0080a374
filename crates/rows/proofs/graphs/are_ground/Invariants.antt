use Rattle.std.proofs.Common.{◌≡◌, ◌<◌, ℕ, None}
use Rattle.mars_tree.specs.Graph.{label_of}
use Rattle.rows.proofs.graphs.are_ground.Given as goal

abbrev pub invariant-loop-node : goal.invariant-loop-node
invariant-loop-node l = (k : ℕ) → k < l.node → label_of l.graph k ≡ None → ⊥
