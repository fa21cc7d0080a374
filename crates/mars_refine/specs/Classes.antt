-- The classes of nodes, and how marks part them.
use Rattle.std.specs.Prelude.{◌≡◌, ◌↔◌, ◌⊎◌, ℕ, ◌<◌, ◌≤◌, List, Bool, true, false, length, slice_set, slice_index_or, Contains}
use Rattle.mars_refine.specs.Refine.{class_of, Moved}

-- the class of each node, how many classes there are, and which nodes are marked
pub record Parted : Type 0 where
  pub of : List ℕ
  pub count : ℕ
  pub marked : List Bool

-- whether a node is marked
abbrev pub is_marked : List Bool → ℕ → Bool
is_marked marked u = slice_index_or marked u false

-- no other node is in the node's class
abbrev pub IsAlone : List ℕ → ℕ → Type 0
IsAlone of u = (v : ℕ) → v < length of → class_of of v ≡ class_of of u → v ≡ u

-- one node more is marked, or none where the node is alone
abbrev pub IsMarking : Parted → ℕ → Parted → Type 0
IsMarking old node new = (new.marked ≡ slice_set old.marked node true) ⊎ ((new.marked ≡ old.marked) × IsAlone old.of node)

-- each class is parted into its marked nodes and the others, and no node is marked
pub record IsSplit (old new : Parted) : Type 0 where
  pub size : length new.of ≡ length old.of
  pub more : old.count ≤ new.count
  pub moved : Moved old.of old.count new.of
  pub parts : (u v : ℕ) → u < length old.of → v < length old.of → (class_of new.of u ≡ class_of new.of v) ↔ ((class_of old.of u ≡ class_of old.of v) × (is_marked old.marked u ≡ is_marked old.marked v))
  pub unmarked : (u : ℕ) → u < length old.of → is_marked new.marked u ≡ false

-- the nodes of a class
abbrev pub AreMembers : List ℕ → ℕ → List ℕ → Type 0
AreMembers of class members = (u : ℕ) → Contains members u ↔ ((u < length of) × (class_of of u ≡ class))

-- no node is marked
abbrev pub AreFree : Parted → Type 0
AreFree p = (u : ℕ) → u < length p.of → is_marked p.marked u ≡ false

-- each class is parted into the nodes of which a fact holds and the others, and no node is marked
pub record IsSplitBy (P : ℕ → Type 0) (old new : Parted) : Type 0 where
  pub size : length new.of ≡ length old.of
  pub more : old.count ≤ new.count
  pub moved : Moved old.of old.count new.of
  pub parts : (u v : ℕ) → u < length old.of → v < length old.of → (class_of new.of u ≡ class_of new.of v) ↔ ((class_of old.of u ≡ class_of old.of v) × (P u ↔ P v))
  pub free : AreFree new
