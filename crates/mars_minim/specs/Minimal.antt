-- Graphs that have no node too many.
use Rattle.std.specs.Prelude.{ℕ, ◌<◌, List, length}
use Rattle.mars_tree.specs.Graph.{Node}
use Rattle.mars_reach.specs.Order.{IsReached}
use Rattle.mars_reach.specs.Part.{IsReduced}

-- no two nodes are the same tree, and each is the end of a walk from a root
pub record IsMinimal (g : List Node) (roots : List ℕ) : Type 0 where
  pub distinct : IsReduced g
  pub reached : (n : ℕ) → n < length g → IsReached g roots n
