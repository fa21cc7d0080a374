-- Inside: a rule's nodes, appended to a store.
use Rattle.std.specs.Prelude.{◌≡◌, ℕ, ◌+◌, ◌<◌, List, ◌++◌, map, slice_get, slice_index_or, Some}
use Rattle.mars_tree.specs.Graph.{Node}
use Rattle.mars_store.specs.System.{System}
use Rattle.mars_rules.specs.declared.flat.FlatGoal.{FlatGoal}
use Rattle.mars_rules.specs.declared.flat.FlatGoal.TheVariants as flat
use Rattle.mars_rules.specs.declared.goals.BodyGoal.{BodyGoal}
use Rattle.mars_rules.specs.declared.goals.BodyGoal.TheVariants as copied

-- a node over the copies of its kids
abbrev pub node_over : List ℕ → Node → Node
node_over copies node = record { label = node.label; kids = map (λ kid. slice_index_or copies kid 0) node.kids }

-- a node whose kids have numbers that are greater by a base
abbrev pub shifted_node : ℕ → Node → Node
shifted_node base node = record { label = node.label; kids = map (λ kid. base + kid) node.kids }

-- nodes as they are after so many others
abbrev pub shifted : ℕ → List Node → List Node
shifted base nodes = map (shifted_node base) nodes

-- a system with more nodes
abbrev pub with_nodes : System → List Node → System
with_nodes system nodes = record system { nodes = system.nodes ++ nodes }

-- a goal's place is below a count
abbrev pub IsGoalBelow : ℕ → FlatGoal → Type 0
IsGoalBelow count (flat.Call place) = place < count
IsGoalBelow count flat.Cut = Unit {0}

-- a goal over copies of nodes
abbrev pub IsCopiedGoal : List ℕ → FlatGoal → BodyGoal → Type 0
IsCopiedGoal copies (flat.Call place) (copied.Call node) = slice_get copies place ≡ Some node
IsCopiedGoal copies flat.Cut copied.Cut = Unit {0}
IsCopiedGoal copies flat.Cut (copied.Call node) = ⊥
IsCopiedGoal copies (flat.Call place) copied.Cut = ⊥
