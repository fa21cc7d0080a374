-- The law of one meaning: two graphs of one written tree have the same walks.
use Rattle.std.specs.Prelude.{ℕ, List, [], ◌∷◌}
use Rattle.mars_tree.specs.Graph.{Node}
use Rattle.mars_tree.specs.Canonical.{KeepsWalks}
use Rattle.mars_graphs.specs.Systems.{EquationSystem, IsSolution}

-- Two graphs that solve one system, as the graphs do that a text of a tree is read as, have the same walks from their roots: each ends at
-- the same label, at a free leaf or nowhere, and the same pairs end at the same tree.
abbrev pub SolutionsKeepWalks : Type 0
SolutionsKeepWalks = (s : EquationSystem) (g h : List Node) (root start : ℕ) → IsSolution s g root → IsSolution s h start → KeepsWalks g (root ∷ []) h (start ∷ [])
