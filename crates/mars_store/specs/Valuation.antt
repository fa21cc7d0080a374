-- Choices of rational trees for numbered variables, and when two variables have the same tree.
use Rattle.std.specs.Prelude.{◌≡◌, ℕ, ◌<◌, List, length, slice_get, All, Option, option_and_then}
use Rattle.mars_tree.specs.Graph.{Node, Shown, at, IsGraph, IsGround}

-- a choice of rational trees: a graph, and of each variable the node at which its tree begins
pub record Valuation : Type 0 where
  pub graph : List Node
  pub nodes : List ℕ

-- what the tree of a variable shows at the end of a path; a variable without a node has no tree
abbrev pub value : Valuation → ℕ → List ℕ → Option Shown
value v x path = option_and_then (λ n. at v.graph n path) (slice_get v.nodes x)

-- the trees of two variables are the same: they show the same at the end of every path
pub record Agree (v : Valuation) (x y : ℕ) : Type 0 where
  pub along : (path : List ℕ) → value v x path ≡ value v y path

-- its graph has no free leaf, and it chooses a tree for each of `count` variables
pub record IsValuation (count : ℕ) (v : Valuation) : Type 0 where
  pub graph : IsGraph v.graph
  pub ground : IsGround v.graph
  pub each : length v.nodes ≡ count
  pub inside : All (λ n. n < length v.graph) v.nodes
