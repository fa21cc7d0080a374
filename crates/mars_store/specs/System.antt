-- Systems of equations, as which a store of nodes and bindings is seen.
use Rattle.std.specs.Prelude.{◌≡◌, ◌≢◌, ℕ, ◌+◌, ◌<◌, ◌≤◌, List, [], ◌∷◌, ◌++◌, length, take, slice_get, slice_index_or, All, Option, Some, None, if◌then◌else◌, ◌==◌, nat_lt}
use Rattle.mars_tree.specs.declared.label.Label.{Label}
use Rattle.mars_tree.specs.Graph.{Node, IsNode, label_of, free_leaf}
use Rattle.mars_store.specs.declared.mark.Mark.{Mark}

-- a graph whose free leaves are the variables, and the equations of a variable with a node,
-- in the order in which they came
pub record System : Type 0 where
  pub nodes : List Node
  pub bound : List (ℕ × ℕ)

-- the end of the links from a node
abbrev pub resolve : List (ℕ × ℕ) → ℕ → ℕ
resolve [] n = n
resolve (equation ∷ later) n = resolve later (if n == equation.0 then equation.1 else n)

-- no equation is of this node
abbrev pub IsUnbound : List (ℕ × ℕ) → ℕ → Type 0
IsUnbound bound n = All (λ equation. equation.0 ≢ n) bound

-- 0 for a labelled node, else the age of the variable: each link leads to a smaller one
abbrev pub rank_of : Option Label → ℕ → ℕ
rank_of (Some label) n = 0
rank_of None n = n + 1

-- the rank of a node by its number
abbrev pub rank : List Node → ℕ → ℕ
rank nodes n = rank_of (label_of nodes n) n

-- a node that is a variable
pub record IsVariable (nodes : List Node) (n : ℕ) : Type 0 where
  pub inside : n < length nodes
  pub free : label_of nodes n ≡ None

-- a variable equals a node that is labelled or older
pub record IsLink (nodes : List Node) (equation : ℕ × ℕ) : Type 0 where
  pub variable : IsVariable nodes equation.0
  pub inside : equation.1 < length nodes
  pub falls : rank nodes equation.1 < rank nodes equation.0

-- a variable that was bound doesn't occur in later equations
abbrev pub IsTriangular : List (ℕ × ℕ) → Type 0
IsTriangular [] = Unit {0}
IsTriangular (equation ∷ later) =
    All (λ next. (next.0 ≢ equation.0) × (next.1 ≢ equation.0)) later × IsTriangular later

-- what is true of every store
pub record IsSystem (system : System) : Type 0 where
  -- a node has as many kids as its label's arity, each of them older
  pub older : (n : ℕ) → IsNode n (slice_index_or system.nodes n free_leaf)
  pub links : All (IsLink system.nodes) system.bound
  pub triangular : IsTriangular system.bound

-- the equation of two ends of links: the younger variable's
abbrev pub equation_of : List Node → ℕ → ℕ → ℕ × ℕ
equation_of nodes x y = if nat_lt (rank nodes y) (rank nodes x) then (x, y) else (y, x)

-- the system with one equation more
abbrev pub linked : System → ℕ → ℕ → System
linked system x y = record system { bound = system.bound ++ equation_of system.nodes x y ∷ [] }

-- the system with one node more
abbrev pub with_node : System → Node → System
with_node system node = record system { nodes = system.nodes ++ node ∷ [] }

-- a node, or number 0 where there is none
abbrev pub node_or_zero : Option ℕ → ℕ
node_or_zero (Some n) = n
node_or_zero None = 0

-- the node that a list has at a place
abbrev pub node_at : List (Option ℕ) → ℕ → ℕ
node_at nodes place = node_or_zero (slice_index_or nodes place None)

-- a list has a node at a place, and it is one of the first ones
pub record IsNodeAt (nodes : List (Option ℕ)) (count place : ℕ) : Type 0 where
  pub node : ℕ
  pub has : slice_get nodes place ≡ Some (Some node)
  pub inside : node < count

-- how much a system has now
abbrev pub mark_of : System → Mark
mark_of system = record { nodes = length system.nodes; bound = length system.bound }

-- the first nodes and equations, as many as the mark tells
abbrev pub undone : System → Mark → System
undone system mark = record { nodes = take mark.nodes system.nodes; bound = take mark.bound system.bound }

-- the system can be cut to the sizes that the mark tells: it has at least so many nodes and equations, and the first
-- equations are of the first nodes
pub record IsMark (system : System) (mark : Mark) : Type 0 where
  pub nodes : mark.nodes ≤ length system.nodes
  pub bound : mark.bound ≤ length system.bound
  pub inside : All (λ equation. (equation.0 < mark.nodes) × (equation.1 < mark.nodes)) (take mark.bound system.bound)

-- nodes and equations were added, after those that were there
pub record Grows (old new : System) : Type 0 where
  pub more_nodes : length old.nodes ≤ length new.nodes
  pub nodes : take (length old.nodes) new.nodes ≡ old.nodes
  pub more_bound : length old.bound ≤ length new.bound
  pub bound : take (length old.bound) new.bound ≡ old.bound
