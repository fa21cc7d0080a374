-- Laws on the solutions of a system to which nodes and equations are added.
use Rattle.std.specs.Prelude.{◌≡◌, ◌↔◌, ℕ, ◌<◌, List, [], ◌∷◌, ◌++◌, length, take, Some}
use Rattle.mars_tree.specs.declared.label.Label.{Label}
use Rattle.mars_tree.specs.Graph.{Node, IsNode, at}
use Rattle.mars_store.specs.Valuation.{Valuation, value, Agree, IsValuation}
use Rattle.mars_store.specs.System.{System, IsSystem, Grows, linked, with_node}
use Rattle.mars_store.specs.Solutions.{InSol, over}

-- the valuation of the first variables alone
abbrev pub cut : ℕ → Valuation → Valuation
cut count v = record { graph = v.graph; nodes = take count v.nodes }

-- the valuation of one variable more, whose tree begins at a node of the graph
abbrev pub with_start : Valuation → ℕ → Valuation
with_start v start = record { graph = v.graph; nodes = v.nodes ++ start ∷ [] }

-- at a node of the valuation's graph begins a tree that a system's node can have:
-- its label over its kids' trees, and for a variable any tree
pub record FitsNode (v : Valuation) (start : ℕ) (node : Node) : Type 0 where
  pub inside : start < length v.graph
  pub tree : (label : Label) → node.label ≡ Some label → (path : List ℕ) → at v.graph start path ≡ over label node.kids (value v) path

-- the same choice of trees, perhaps for more variables: the graph and the variables were only added to
pub record Continues (v w : Valuation) : Type 0 where
  pub graph : take (length v.graph) w.graph ≡ v.graph
  pub nodes : take (length v.nodes) w.nodes ≡ v.nodes

-- the solutions after an equation are those of before that solve it
abbrev pub EquationSolved : Type 0
EquationSolved = (system : System) (x y : ℕ) (v : Valuation) → InSol (linked system x y) v ↔ (InSol system v × Agree v x y)

-- with one node more a system is a system still
abbrev pub NodeSystem : Type 0
NodeSystem = (system : System) (node : Node) → IsSystem system → IsNode (length system.nodes) node → IsSystem (with_node system node)

-- the solutions after a node are those of before with a tree that the node can have ..
abbrev pub NodeSolved : Type 0
NodeSolved = (system : System) (node : Node) → IsSystem system → IsNode (length system.nodes) node → (v : Valuation) (start : ℕ)
    → InSol (with_node system node) (with_start v start) ↔ (InSol system v × FitsNode v start node)

-- .. and no others
abbrev pub NodeLast : Type 0
NodeLast = (system : System) (node : Node) (w : Valuation) → InSol (with_node system node) w → (v : Valuation) × (start : ℕ) × (w ≡ with_start v start)

-- every solution continues to one with the node
abbrev pub NodeContinued : Type 0
NodeContinued = (system : System) (node : Node) → IsSystem system → IsNode (length system.nodes) node → (v : Valuation) → InSol system v
    → (w : Valuation) × InSol (with_node system node) w × Continues v w

-- a solution of a system that has grown, cut to the older nodes, solves the older system
abbrev pub OlderSolved : Type 0
OlderSolved = (old new : System) → IsSystem old → Grows old new → (v : Valuation) → InSol new v → InSol old (cut (length old.nodes) v)

-- over a graph that was only added to, a solution stays a solution ..
abbrev pub LargerSolved : Type 0
LargerSolved = (system : System) → IsSystem system → (v w : Valuation) → InSol system v → IsValuation (length system.nodes) w → Continues v w → InSol system w

-- .. and each variable has the tree that it had
abbrev pub TreesStay : Type 0
TreesStay = (count : ℕ) (v w : Valuation) → IsValuation count v → Continues v w → (x : ℕ) → x < count → (path : List ℕ) → value w x path ≡ value v x path
