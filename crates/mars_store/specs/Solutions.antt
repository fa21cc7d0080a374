-- The solutions of a system, and the plain valuation, which is one of them.
use Rattle.std.specs.Prelude.{◌≡◌, ◌≢◌, ℕ, List, [], ◌∷◌, length, map, slice_get, All, Option, Some, None, option_and_then}
use Rattle.std.specs.List.{range_with_len}
use Rattle.mars_tree.specs.declared.label.Label.{Label}
use Rattle.mars_tree.specs.declared.label.Label.TheVariants.{Name}
use Rattle.mars_tree.specs.Graph.{Node, Shown, label as at_label, label_of, kids_of, labelled}
use Rattle.mars_store.specs.Valuation.{Valuation, value, Agree, IsValuation}
use Rattle.mars_store.specs.System.{System, resolve}

-- what the tree of a label over kids shows at the end of a path
abbrev pub over : Label → List ℕ → (ℕ → List ℕ → Option Shown) → List ℕ → Option Shown
over label kids tree [] = Some (at_label label)
over label kids tree (place ∷ path) = option_and_then (λ kid. tree kid path) (slice_get kids place)

-- a valuation of the nodes solves the system: each labelled node has its label over its kids' trees,
-- and each bound variable has the tree of what it is bound to
pub record InSol (system : System) (v : Valuation) : Type 0 where
  pub valuation : IsValuation (length system.nodes) v
  pub labelled : (n : ℕ) (label : Label) → label_of system.nodes n ≡ Some label
      → (path : List ℕ) → value v n path ≡ over label (kids_of system.nodes n) (value v) path
  pub bound : All (λ equation. Agree v equation.0 equation.1) system.bound

-- a name of arity 0
abbrev pub constant : ℕ → Label
constant name = Name (record { 0 = name }) 0

-- the label of a node, or the name of a variable
abbrev pub plain_label : ℕ → Option Label → Label
plain_label name (Some label) = label
plain_label name None = constant name

-- a node of the plain valuation is the node at the end of its links, where a free variable has a name
abbrev pub plain_node : System → (ℕ → ℕ) → ℕ → Node
plain_node system names n =
    let last = resolve system.bound n in
    labelled (plain_label (names last) (label_of system.nodes last)) (kids_of system.nodes last)

-- the system's own graph, in which each free variable has a name and each bound one is what it is bound to
abbrev pub plain : System → (ℕ → ℕ) → Valuation
plain system names = record {
  graph = map (plain_node system names) (range_with_len 0 (length system.nodes));
  nodes = range_with_len 0 (length system.nodes);
}

-- a name for each variable that occurs nowhere in the system, a different one for each
pub record AreNew (system : System) (names : ℕ → ℕ) : Type 0 where
  pub new : (n m : ℕ) → label_of system.nodes m ≢ Some (constant (names n))
  pub different : (n m : ℕ) → names n ≡ names m → n ≡ m
