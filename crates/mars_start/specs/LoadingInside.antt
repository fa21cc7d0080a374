-- Inside: kept trees in a store. For each node of a tree there is a variable, which is bound to the node's label over the
-- variables of its kids.
use Rattle.std.specs.Prelude.{◌≡◌, ◌≢◌, ℕ, zero, suc, ◌<◌, ◌≤◌, List, length, map, slice_index, Some, None, All}
use Rattle.mars_tree.specs.declared.label.Label.{Label}
use Rattle.mars_tree.specs.Graph.{Node, label_of, kids_of, free_leaf, at}
use Rattle.mars_store.specs.Valuation.{Valuation, value}
use Rattle.mars_store.specs.System.{System, IsSystem, IsUnbound, Grows, with_node, linked}
use Rattle.mars_store.specs.Solutions.{InSol, over}
use Rattle.mars_rules.specs.PairedLists.{AllPaired}

-- so many variables more
abbrev pub with_frees : System → ℕ → System
with_frees s zero = s
with_frees s (suc count) = with_node (with_frees s count) free_leaf

-- a node of a tree, where each of the tree's nodes has one of the store
abbrev pub node_among : List ℕ → Node → Node
node_among nodes node = record { label = node.label; kids = map (slice_index nodes) node.kids }

-- a node more, to which a variable is bound
abbrev pub with_value : System → ℕ → Node → System
with_value s var node = linked (with_node s node) var (length s.nodes)

-- in every solution the node of a tree's node has its label over the nodes of its kids
abbrev pub ShowsNode : System → List ℕ → List Node → ℕ → Type 0
ShowsNode s nodes graph i = (label : Label) → label_of graph i ≡ Some label → (v : Valuation) → InSol s v → (path : List ℕ)
    → value v (slice_index nodes i) path ≡ over label (map (slice_index nodes) (kids_of graph i)) (value v) path

-- a variable that isn't bound
pub record IsFreeNode (s : System) (n : ℕ) : Type 0 where
  pub free : label_of s.nodes n ≡ None
  pub unbound : IsUnbound s.bound n

-- the first nodes of a tree were loaded, and the variables of the others are free
pub record AreNodesLoaded (start : System) (nodes : List ℕ) (graph : List Node) (now : System) (count : ℕ) : Type 0 where
  pub grows : Grows start now
  pub system : IsSystem now
  pub size : length nodes ≡ length graph
  pub inside : All (λ n. n < length now.nodes) nodes
  pub apart : (i j : ℕ) → i < j → j < length graph → slice_index nodes i ≢ slice_index nodes j
  pub done : (i : ℕ) → i < count → ShowsNode now nodes graph i
  pub left : (i : ℕ) → count ≤ i → i < length graph → IsFreeNode now (slice_index nodes i)

-- in every solution a node has the tree of a graph's first node
pub record HasTree (s : System) (graph : List Node) (n : ℕ) : Type 0 where
  pub inside : n < length s.nodes
  pub tree : (v : Valuation) → InSol s v → (path : List ℕ) → value v n path ≡ at graph 0 path

-- a tree was loaded
pub record IsTreeLoaded (old new : System) (graph : List Node) (root : ℕ) : Type 0 where
  pub grows : Grows old new
  pub system : IsSystem new
  pub tree : HasTree new graph root

-- trees were loaded
pub record AreTreesLoaded (s : System) (graphs : List (List Node)) (roots : List ℕ) : Type 0 where
  pub system : IsSystem s
  pub trees : AllPaired (HasTree s) graphs roots
