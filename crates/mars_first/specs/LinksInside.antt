-- Classes of places by links: each place has a link, none leads to a greater place, and a head leads to itself.
use Rattle.std.specs.Prelude.{◌≡◌, ◌≢◌, ◌⊎◌, ℕ, ◌<◌, ◌≤◌, List, length, Some, slice_get, slice_index_or, Contains}
use Rattle.std.specs.List.{sum_by}

-- the place to which a place's link leads
abbrev pub link_of : List ℕ → ℕ → ℕ
link_of links x = slice_index_or links x 0

abbrev pub IsFalling : List ℕ → Type 0
IsFalling links = (x : ℕ) → x < length links → link_of links x ≤ x

abbrev pub total_of_links : List ℕ → ℕ
total_of_links links = sum_by (λ x. x) links

-- links lead from a place to another, in any number of steps
pub data LeadsTo (links : List ℕ) : ℕ → ℕ → Type 0 where
  stay : (x : ℕ) → LeadsTo links x x
  onward : (x y : ℕ) → x < length links → LeadsTo links (link_of links x) y → LeadsTo links x y

-- each new link leads where old links lead
pub record AreKeptLinks (old new : List ℕ) : Type 0 where
  pub size : length new ≡ length old
  pub falling : IsFalling new
  pub leads : (x : ℕ) → x < length old → LeadsTo old x (link_of new x)
  pub less : total_of_links new ≤ total_of_links old

-- a place whose link leads to itself
abbrev pub IsRoot : List ℕ → ℕ → Type 0
IsRoot links x = (x < length links) × (link_of links x ≡ x)

-- the class of a node: its place among the classes, and its head
pub record HasClass (links heads slots : List ℕ) (j node : ℕ) : Type 0 where
  pub slot : ℕ
  pub head : ℕ
  pub at : slice_get slots j ≡ Some slot
  pub there : slice_get heads slot ≡ Some head
  pub leads : LeadsTo links node head

-- a node of a class
pub record HasClassNode (links nodes slots : List ℕ) (slot head : ℕ) : Type 0 where
  pub place : ℕ
  pub node : ℕ
  pub there : slice_get nodes place ≡ Some node
  pub at : slice_get slots place ≡ Some slot
  pub leads : LeadsTo links node head

-- heads with the classes of nodes, by links as they were; no class is without a node
pub record AreClasses (links nodes heads slots : List ℕ) : Type 0 where
  pub count : length slots ≡ length nodes
  pub class : (j node : ℕ) → slice_get nodes j ≡ Some node → HasClass links heads slots j node
  pub node : (k head : ℕ) → slice_get heads k ≡ Some head → HasClassNode links nodes slots k head

-- a list with a number at a place: it went last there, or was there
pub record IsWith (old : List ℕ) (x place : ℕ) (new : List ℕ) : Type 0 where
  pub there : slice_get new place ≡ Some x
  pub front : (k y : ℕ) → slice_get old k ≡ Some y → slice_get new k ≡ Some y
  pub only : (k y : ℕ) → slice_get new k ≡ Some y → (slice_get old k ≡ Some y) ⊎ ((k ≡ place) × (y ≡ x))

abbrev pub AreRoots : List ℕ → List ℕ → Type 0
AreRoots links heads = (k head : ℕ) → slice_get heads k ≡ Some head → IsRoot links head

-- a head that isn't the first one
pub record AreSeveral (heads : List ℕ) : Type 0 where
  pub first : ℕ
  pub other : ℕ
  pub first_in : slice_get heads 0 ≡ Some first
  pub other_in : Contains heads other
  pub apart : first ≢ other

-- heads that are all one
abbrev pub AreOne : List ℕ → Type 0
AreOne heads = (k l x y : ℕ) → slice_get heads k ≡ Some x → slice_get heads l ≡ Some y → x ≡ y

-- links of heads that lead to heads, and the rest as they were
pub record IsJoining (old heads new : List ℕ) : Type 0 where
  pub size : length new ≡ length old
  pub falling : IsFalling new
  pub links : (x : ℕ) → x < length old → (link_of new x ≡ link_of old x) ⊎ (Contains heads x × Contains heads (link_of new x))
  pub less : AreSeveral heads → total_of_links new < total_of_links old
