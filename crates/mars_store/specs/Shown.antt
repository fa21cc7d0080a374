-- The one graph that shows all that is known of a system.
use Rattle.std.specs.Prelude.{◌≡◌, ◌↔◌, ℕ, ◌<◌, List, length, map, Option, Some, None}
use Rattle.std.specs.List.{range_with_len}
use Rattle.mars_tree.specs.declared.label.Label.{Label}
use Rattle.mars_tree.specs.Graph.{Node, Shown, label as at_label, free as at_free, label_of, kids_of, at}
use Rattle.mars_store.specs.Valuation.{Valuation, value}
use Rattle.mars_store.specs.System.{System, IsSystem, resolve}
use Rattle.mars_store.specs.Solutions.{InSol}
use Rattle.mars_store.specs.Laws.{IsForced, IsUnforced, IsImplied}

-- a node over the ends of its kids' links
abbrev pub resolved_node : System → ℕ → Node
resolved_node system n = record { label = label_of system.nodes n; kids = map (resolve system.bound) (kids_of system.nodes n) }

-- the system's graph along its links; its free leaves are the variables that aren't bound
abbrev pub resolved : System → List Node
resolved system = map (resolved_node system) (range_with_len 0 (length system.nodes))

-- what that graph shows at the end of a path from a node
abbrev pub shown : System → ℕ → List ℕ → Option Shown
shown system n path = at (resolved system) (resolve system.bound n) path

-- the place is there in every solution
abbrev pub IsPlace : System → ℕ → List ℕ → Type 0
IsPlace system n path = (v : Valuation) → InSol system v → value v n path ≡ None → ⊥

-- a label is forced exactly where the graph shows it
abbrev pub LabelsShown : Type 0
LabelsShown = (system : System) → IsSystem system → (n : ℕ) → n < length system.nodes → (path : List ℕ) (label : Label)
    → (shown system n path ≡ Some (at_label label)) ↔ IsForced system n path label

-- a place without a forced label is there exactly where the graph shows a free leaf
abbrev pub LeavesShown : Type 0
LeavesShown = (system : System) → IsSystem system → (n : ℕ) → n < length system.nodes → (path : List ℕ)
    → ((leaf : ℕ) × (shown system n path ≡ Some (at_free leaf))) ↔ (IsPlace system n path × IsUnforced system n path)

-- two nodes are implied equal exactly where the graph shows the same along every path
abbrev pub SameShown : Type 0
SameShown = (system : System) → IsSystem system → (a b : ℕ) → a < length system.nodes → b < length system.nodes
    → ((path : List ℕ) → shown system a path ≡ shown system b path) ↔ IsImplied system a b
