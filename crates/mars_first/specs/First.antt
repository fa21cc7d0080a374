-- The first node of a component: all its nodes are candidates, and are narrowed by the rows at the ends of paths.
use Rattle.std.specs.Prelude.{◌≡◌, ◌≢◌, ◌↔◌, ◌⊎◌, ℕ, ◌<◌, List, [], ◌∷◌, length, Option, Some, Contains}
use Rattle.std.specs.Option.{option_map}
use Rattle.mars_tree.specs.Graph.{Node, end_of}
use Rattle.mars_reach.specs.Order.{AreDistinct}
use Rattle.mars_comp.specs.Key.{inner, entry, IsKey}
use Rattle.mars_comp.specs.Least.{IsAtMost, IsMember}
use Rattle.mars_comp.specs.declared.items.Item.{Item}

-- the row at the end of a path within the component: a label, and the kids, those of the component without their places
abbrev pub row_along : List Node → List ℕ → List ℕ → ℕ → List ℕ → Option (List Item)
row_along g parts outside n path = option_map (entry g parts outside []) (end_of (inner g parts) n path)

-- of two paths of one length, the first numbers that differ decide
abbrev pub IsLess : List ℕ → List ℕ → Type 0
IsLess [] q = ⊥
IsLess (j ∷ p) [] = ⊥
IsLess (j ∷ p) (k ∷ q) = (j < k) ⊎ ((j ≡ k) × IsLess p q)

-- the order of paths: by length, and then by the first numbers that differ
abbrev pub IsBefore : List ℕ → List ℕ → Type 0
IsBefore p q = (length p < length q) ⊎ ((length p ≡ length q) × IsLess p q)

-- all candidates have one row at the end of a path, or all have none
abbrev pub IsLevel : List Node → List ℕ → List ℕ → List ℕ → List ℕ → Type 0
IsLevel g parts outside nodes path =
    (a b : ℕ) → Contains nodes a → Contains nodes b → row_along g parts outside a path ≡ row_along g parts outside b path

-- those of the candidates with a row at the end of a path, each once
pub record Selects (g : List Node) (parts outside nodes path : List ℕ) (row : List Item) (some : List ℕ) : Type 0 where
  pub once : AreDistinct some
  pub are : (n : ℕ) → Contains some n ↔ (Contains nodes n × (row_along g parts outside n path ≡ Some row))

-- two candidates with different rows at the end of a path
pub record Differ (g : List Node) (parts outside nodes path : List ℕ) : Type 0 where
  pub one : ℕ
  pub other : ℕ
  pub one_in : Contains nodes one
  pub other_in : Contains nodes other
  pub apart : row_along g parts outside one path ≢ row_along g parts outside other path

-- the candidates with the rarest row at the end of the first path at which candidates differ; of equally rare rows the least
pub record IsNarrowed (g : List Node) (parts outside nodes left : List ℕ) : Type 0 where
  pub path : List ℕ
  pub row : List Item
  pub differ : Differ g parts outside nodes path
  pub alike : (q : List ℕ) → IsBefore q path → IsLevel g parts outside nodes q
  pub selects : Selects g parts outside nodes path row left
  pub some : 0 < length left
  pub rarest : (other : List Item) (others : List ℕ) → Selects g parts outside nodes path other others → 0 < length others →
      (length left < length others) ⊎ ((length left ≡ length others) × IsAtMost row other)

-- candidates narrowed again and again, until rows tell no two of them apart; the start is one of those that are left
pub data Narrows (g : List Node) (parts outside : List ℕ) (start : ℕ) : List ℕ → Type 0 where
  done : (nodes : List ℕ) → ((q : List ℕ) → IsLevel g parts outside nodes q) → Contains nodes start → Narrows g parts outside start nodes
  step : (nodes left : List ℕ) → IsNarrowed g parts outside nodes left → Narrows g parts outside start left → Narrows g parts outside start nodes

-- the key from the first node of the component of `n`, and the nodes at its places
pub record IsFirst (g : List Node) (parts outside : List ℕ) (n : ℕ) (nodes : List ℕ) (key : List Item) : Type 0 where
  pub start : ℕ
  pub all : List ℕ
  pub members : (m : ℕ) → Contains all m ↔ IsMember g parts n m
  pub narrows : Narrows g parts outside start all
  pub is : IsKey g parts outside start nodes key
