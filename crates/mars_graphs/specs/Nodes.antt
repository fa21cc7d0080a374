-- The nodes of a tree that is being written: a node for each term, with a leaf for each variable.
use Rattle.std.specs.Prelude.{◌≡◌, ◌≢◌, ℕ, ◌<◌, List, [], ◌∷◌, ◌++◌, length, map, Option, Some, None, Bool, false, not, is_some, IsSome, ◌==◌, slice_get, slice_set, slice_index_or, if◌then◌else◌, All}
use Rattle.std.specs.Option.{option_map_or}
use Rattle.mars_tree.specs.declared.label.NameId.{NameId}
use Rattle.mars_tree.specs.Graph.{Node, free_leaf, label_of}
use Rattle.mars_tree.specs.Graph as graph
use Rattle.mars_graphs.specs.Systems.{same_variable, Side, variable, labelled, Sides, no_sides, next_side, Equation, equal_to}

-- the nodes; what each of them gives way to where it is a kid; and the leaf of each variable
pub record Nodes : Type 0 where
  pub nodes : List Node
  pub targets : List ℕ
  pub leaves : List (NameId × ℕ)

abbrev pub no_nodes : Nodes
no_nodes = record { nodes = []; targets = []; leaves = [] }

-- the leaf of a variable
abbrev pub leaf_among : NameId → List (NameId × ℕ) → Option ℕ
leaf_among x [] = None
leaf_among x (leaf ∷ leaves) = if same_variable x leaf.0 then Some leaf.1 else leaf_among x leaves

abbrev pub leaf_of_variable : Nodes → NameId → Option ℕ
leaf_of_variable b x = leaf_among x b.leaves

-- what a node gives way to: the root of the term that its variable is equal to, or itself
abbrev pub target_among : List ℕ → ℕ → ℕ
target_among targets n = slice_index_or targets n n

abbrev pub target_at : Nodes → ℕ → ℕ
target_at b n = target_among b.targets n

-- with one node more
abbrev pub nodes_with : Nodes → Node → Nodes
nodes_with b node = record { nodes = b.nodes ++ node ∷ []; targets = b.targets ++ length b.nodes ∷ []; leaves = b.leaves }

-- with the leaf of a variable, which is new where the variable is
abbrev pub nodes_with_variable : Nodes → NameId → Nodes
nodes_with_variable b x =
    if is_some (leaf_of_variable b x) then b else
    record { nodes = b.nodes ++ free_leaf ∷ []; targets = b.targets ++ length b.nodes ∷ []; leaves = b.leaves ++ (x, length b.nodes) ∷ [] }

-- with a leaf that gives way to a root
abbrev pub nodes_with_target : Nodes → ℕ → ℕ → Nodes
nodes_with_target b leaf root = record b { targets = slice_set b.targets leaf root }

-- whether a leaf gives way to another node
abbrev pub gives_way : Nodes → ℕ → Bool
gives_way b leaf = not (target_at b leaf == leaf)

-- whether a variable has an equation: its leaf gives way
abbrev pub has_target : Nodes → NameId → Bool
has_target b x = option_map_or (λ leaf. gives_way b leaf) (leaf_of_variable b x) false

-- a node is that of a term: a variable's leaf, or a label over the nodes of the terms under it
abbrev mutual
  pub StandsFor : Nodes → ℕ → Side → Type 0
  StandsFor b n (variable x) = leaf_of_variable b x ≡ Some n
  StandsFor b n (labelled l sides) = (kids : List ℕ) × (slice_get b.nodes n ≡ Some (graph.labelled l kids)) × StandForRow b kids sides

  pub StandForRow : Nodes → List ℕ → Sides → Type 0
  StandForRow b kids no_sides = kids ≡ []
  StandForRow b kids (next_side side sides) = (kid : ℕ) × (rest : List ℕ) × (kids ≡ kid ∷ rest) × StandsFor b kid side × StandForRow b rest sides

-- a term that isn't a variable alone
abbrev pub HasLabel : Side → Type 0
HasLabel (variable x) = ⊥
HasLabel (labelled l sides) = Unit {0}

-- the equations so far: each variable's leaf gives way to a node of the term that the variable is equal to
pub record Holds (b : Nodes) (equations : List Equation) : Type 0 where
  pub each : (x : NameId) (leaf : ℕ) → leaf_of_variable b x ≡ Some leaf → StandsFor b (target_at b leaf) (equal_to equations x)
  pub known : All (λ e. IsSome (leaf_of_variable b e.variable)) equations
  pub applied : All (λ e. HasLabel e.side) equations

-- further nodes and variables
pub record NodesGrow (old new : Nodes) : Type 0 where
  pub nodes : (more : List Node) × (new.nodes ≡ old.nodes ++ more)
  pub leaves : (more : List (NameId × ℕ)) × (new.leaves ≡ old.leaves ++ more)

-- a node whose kids give way
abbrev pub tied : List ℕ → Node → Node
tied targets node = record { label = node.label; kids = map (target_among targets) node.kids }

-- the graph of all nodes
abbrev pub tied_graph : Nodes → List Node
tied_graph b = map (tied b.targets) b.nodes

-- the nodes with one whose kids give way
abbrev pub tied_at : List ℕ → List Node → ℕ → List Node
tied_at targets g n = slice_set g n (tied targets (slice_index_or g n free_leaf))

-- the nodes with one that has these kids
abbrev pub kids_set : List Node → ℕ → List ℕ → List Node
kids_set g n kids = slice_set g n (record { label = label_of g n; kids = kids })

-- what holds of all nodes that are made
pub record AreNodes (b : Nodes) : Type 0 where
  pub size : length b.targets ≡ length b.nodes
  pub in_range : All (λ target. target < length b.nodes) b.targets
  -- a labelled node gives way to none
  pub kept : (n : ℕ) (node : Node) → slice_get b.nodes n ≡ Some node → node.label ≢ None → target_at b n ≡ n
  pub free : (x : NameId) (leaf : ℕ) → leaf_of_variable b x ≡ Some leaf → slice_get b.nodes leaf ≡ Some free_leaf
  -- two variables have two leaves
  pub apart : (x y : NameId) (leaf : ℕ) → leaf_of_variable b x ≡ Some leaf → leaf_of_variable b y ≡ Some leaf → x ≡ y
