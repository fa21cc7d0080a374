-- The part of a graph that roots reach.
use Rattle.std.specs.Prelude.{◌≡◌, ℕ, ◌<◌, ◌≤◌, List, length, map, All, Contains}
use Rattle.mars_tree.specs.Graph.{Node, kids_of}
use Rattle.mars_tree.specs.Canonical.{KeepsWalks}
pub use Rattle.mars_tree.specs.Canonical.{IsReduced}
use Rattle.mars_reach.specs.Order.{place_in, renumbered, IsReach, IsReached, FirstInOrder}

-- each kid of the nodes is one of them
abbrev pub IsClosed : List Node → List ℕ → Type 0
IsClosed g nodes = All (λ n. All (Contains nodes) (kids_of g n)) nodes

-- `h` with the roots `others` is the part of `g` that the roots reach, in the order of a walk over a queue
pub record IsPart (g : List Node) (roots : List ℕ) (h : List Node) (others : List ℕ) : Type 0 where
  pub order : List ℕ
  pub reach : IsReach g roots order
  pub nodes : h ≡ renumbered g (place_in order) order
  pub placed : others ≡ map (place_in order) roots

-- what holds of such a part
pub record ShowsPart (g : List Node) (roots : List ℕ) (h : List Node) (others : List ℕ) : Type 0 where
  pub keeps : KeepsWalks g roots h others
  pub reached : (n : ℕ) → n < length h → IsReached h others n
  pub numbered : FirstInOrder h others
  pub roots_in : All (λ root. root < length h) others
  pub small : length h ≤ length g
  pub apart : IsReduced g → IsReduced h
