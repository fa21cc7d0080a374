-- The graph that is made is the solution of the system that is written, and no larger than what is written.
use Rattle.std.specs.Prelude.{◌≤◌, ◌+◌, ℕ, List, [], ◌∷◌, length, ◌<◌}
use Rattle.mars_graphs.specs.Systems.{IsSolution}
use Rattle.mars_graphs.specs.Steps.{TreeStep, Close, Define, nothing_written, writes_all, system_of}
use Rattle.mars_graphs.specs.Making.{nothing_made, makes_all, made_graph, made_root}

-- the graph of some steps solves their system
abbrev pub MadeGraphSolves : Type 0
MadeGraphSolves = (steps : List TreeStep) → IsSolution (system_of (writes_all nothing_written steps)) (made_graph (makes_all nothing_made steps)) (made_root (makes_all nothing_made steps))

-- how many steps are tokens of the text: all but those that say that something is whole
abbrev pub token_count : List TreeStep → ℕ
token_count [] = 0
token_count (Close ∷ steps) = token_count steps
token_count (Define ∷ steps) = token_count steps
token_count (step ∷ steps) = token_count steps + 1

-- the graph of some steps that leave a term has at most a node a token
abbrev pub MadeGraphIsSmall : Type 0
MadeGraphIsSmall = (steps : List TreeStep) → 0 < length (writes_all nothing_written steps).terms → length (made_graph (makes_all nothing_made steps)) ≤ token_count steps
