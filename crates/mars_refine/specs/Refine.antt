-- Refinement: what holds of the classes while they are split, and when that is done.
use Rattle.std.specs.Prelude.{◌≡◌, ◌↔◌, ◌⊎◌, ℕ, ◌<◌, ◌≤◌, List, length, Some, slice_get, slice_index_or, Contains}
use Rattle.mars_refine.specs.declared.edge.Edge.{Edge}
use Rattle.mars_tree.specs.Graph.{Node, shown_at, kids_of, Same}

-- the class of a node
abbrev pub class_of : List ℕ → ℕ → ℕ
class_of of u = slice_index_or of u 0

-- two nodes are in one class, or the class of one has yet to part others
abbrev pub Waits : List ℕ → ℕ → ℕ → ℕ → Type 0
Waits of next x y = (class_of of x ≡ class_of of y) ⊎ ((next ≤ class_of of x) ⊎ (next ≤ class_of of y))

-- equal trees are in one class, and nodes of one class show the same and have kids that are together or wait
pub record IsRefining (g : List Node) (of : List ℕ) (next : ℕ) : Type 0 where
  pub coarse : (u v : ℕ) → u < length g → v < length g → Same g u g v → class_of of u ≡ class_of of v
  pub shown : (u v : ℕ) → u < length g → v < length g → class_of of u ≡ class_of of v → shown_at g u ≡ shown_at g v
  pub follows : (u v k x y : ℕ) → u < length g → v < length g → class_of of u ≡ class_of of v → slice_get (kids_of g u) k ≡ Some x → slice_get (kids_of g v) k ≡ Some y → Waits of next x y

-- the kid at the place is in the class
abbrev pub HasKidIn : List Node → List ℕ → ℕ → ℕ → ℕ → Type 0
HasKidIn g of class place u = (x : ℕ) × (slice_get (kids_of g u) place ≡ Some x) × (class_of of x ≡ class)

-- a node that moved is in a class that is new
abbrev pub Moved : List ℕ → ℕ → List ℕ → Type 0
Moved old count now = (u : ℕ) → u < length old → (class_of now u ≡ class_of old u) ⊎ (count ≤ class_of now u)

-- no edge of the list has the place
abbrev pub IsWithout : List Edge → ℕ → Type 0
IsWithout edges place = (node : ℕ) → Contains edges (record { node = node; place = place }) → ⊥

-- the classes after nodes were parted by the kids that they have in a class, at the places that no edge of `rest` has
pub record IsSplitTo (g : List Node) (old now : List ℕ) (class count : ℕ) (rest : List Edge) : Type 0 where
  pub moved : Moved old count now
  pub refines : (u v : ℕ) → u < length g → v < length g → class_of now u ≡ class_of now v → class_of old u ≡ class_of old v
  pub coarse : (u v : ℕ) → u < length g → v < length g → Same g u g v → class_of now u ≡ class_of now v
  pub split : (u v place : ℕ) → u < length g → v < length g → class_of now u ≡ class_of now v → IsWithout rest place → HasKidIn g old class place u ↔ HasKidIn g old class place v

-- nodes are in one class exactly where they are the same tree
abbrev pub AreTrees : List Node → List ℕ → Type 0
AreTrees g of = (u v : ℕ) → u < length g → v < length g → (class_of of u ≡ class_of of v) ↔ Same g u g v
