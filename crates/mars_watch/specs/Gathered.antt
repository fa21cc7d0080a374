-- What waits at the variables that were bound, and lists of items and of their numbers in step.
use Rattle.std.specs.Prelude.{ℕ, ◌<◌, List, [], ◌∷◌, length, slice_index, slice_index_or, Contains}
use Rattle.mars_watch.specs.Lined.{AreAscending}

-- an entry of a list of pairs
abbrev pub pair_at : List (ℕ × ℕ) → ℕ → ℕ × ℕ
pair_at pairs place = slice_index_or pairs place (0, 0)

-- the items that wait at a variable bound by one of these equations
abbrev pub AreGathered : List (ℕ × ℕ) → List (ℕ × ℕ) → List ℕ → Type 0
AreGathered watches bound gathered = (place number : ℕ) → place < length bound → Contains watches ((pair_at bound place).0, number) → Contains gathered number

-- the same numbers, each once, in order
pub record AreInOrder (size : ℕ) (found places : List ℕ) : Type 0 where
  pub ascending : AreAscending 0 places size
  pub from : (place : ℕ) → Contains places place → Contains found place
  pub all : (place : ℕ) → Contains found place → Contains places place

-- each number is below those after it
abbrev pub AreRising : List ℕ → Type 0
AreRising numbers = (i j : ℕ) → i < j → j < length numbers → slice_index numbers i < slice_index numbers j

-- what holds of the entries of two lists, place by place
abbrev pub AreEach : {X Y : Type 0} → (X → Y → Type 0) → List X → List Y → Type 0
AreEach R [] [] = Unit {0}
AreEach R [] (y ∷ ys) = ⊥
AreEach R (x ∷ xs) [] = ⊥
AreEach R (x ∷ xs) (y ∷ ys) = R x y × AreEach R xs ys
