-- How pairs of nodes are made equal, where the pairs that were met before are assumed equal.
use Rattle.std.specs.Prelude.{◌≡◌, ℕ, ◌<◌, ◌≤◌, List, [], ◌∷◌, length, take, slice_get, All, Some}
use Rattle.std.specs.List.{IsDistinct}
use Rattle.mars_tree.specs.declared.label.Label.{Label}
use Rattle.mars_tree.specs.Graph.{Node, label_of, kids_of}
use Rattle.mars_store.specs.Valuation.{Valuation, value, Agree}
use Rattle.mars_store.specs.System.{System, IsSystem}
use Rattle.mars_store.specs.Solutions.{InSol}
use Rattle.mars_unify.specs.MetInside.{same_pair}

-- the trees of a pair show the same at the end of a path
abbrev pub SameAt : Valuation → List ℕ → ℕ × ℕ → Type 0
SameAt v path pair = value v pair.0 path ≡ value v pair.1 path

-- the trees of a pair are the same
abbrev pub AreSame : Valuation → ℕ × ℕ → Type 0
AreSame v pair = Agree v pair.0 pair.1

-- in every solution the pair shows the same at each path at which all the met pairs do
abbrev pub IsCovered : System → List (ℕ × ℕ) → ℕ × ℕ → Type 0
IsCovered system met pair = (v : Valuation) → InSol system v → (path : List ℕ) → All (SameAt v path) met → SameAt v path pair

-- in every solution the pair shows the same at the root, and one place past each path at which all the met pairs do
pub record IsSettled (system : System) (met : List (ℕ × ℕ)) (pair : ℕ × ℕ) : Type 0 where
  pub root : (v : Valuation) → InSol system v → SameAt v [] pair
  pub below : (v : Valuation) → InSol system v → (place : ℕ) (path : List ℕ) → All (SameAt v path) met → SameAt v (place ∷ path) pair

-- two nodes with one label
pub record AreAlike (nodes : List Node) (pair : ℕ × ℕ) : Type 0 where
  pub label : Label
  pub left : label_of nodes pair.0 ≡ Some label
  pub right : label_of nodes pair.1 ≡ Some label

-- pairs of alike nodes, each once
pub record AreMet (nodes : List Node) (met : List (ℕ × ℕ)) : Type 0 where
  pub alike : All (AreAlike nodes) met
  pub once : IsDistinct same_pair met

-- bindings and met pairs were added that follow from the pair, and no solution in which it is the same was lost
pub record IsMeeting (old new : System) (before after : List (ℕ × ℕ)) (pair : ℕ × ℕ) : Type 0 where
  pub nodes : new.nodes ≡ old.nodes
  pub size : length old.bound ≤ length new.bound
  pub front : take (length old.bound) new.bound ≡ old.bound
  pub system : IsSystem new
  pub only : (v : Valuation) → InSol new v → InSol old v
  pub all : (v : Valuation) → InSol old v → AreSame v pair → InSol new v
  pub same : (v : Valuation) → InSol old v → AreSame v pair → All (AreSame v) before → All (AreSame v) after
  pub met_size : length before ≤ length after
  pub met_front : take (length before) after ≡ before
  pub met : AreMet new.nodes after

-- the pairs of kids below a place were met
pub record AreKidsMet (old now : System) (before met : List (ℕ × ℕ)) (pair : ℕ × ℕ) (place : ℕ) : Type 0 where
  pub meeting : IsMeeting old now before met pair
  pub covered : (k x y : ℕ) → k < place → slice_get (kids_of old.nodes pair.0) k ≡ Some x → slice_get (kids_of old.nodes pair.1) k ≡ Some y
      → IsCovered now met (x, y)

-- the first pair is covered by the met pairs, and those below a place are settled
pub record IsSolving (old now : System) (met : List (ℕ × ℕ)) (place : ℕ) (pair : ℕ × ℕ) : Type 0 where
  pub meeting : IsMeeting old now [] met pair
  pub covered : IsCovered now met pair
  pub settled : All (IsSettled now met) (take place met)
  pub reached : place ≤ length met
