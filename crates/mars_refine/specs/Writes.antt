-- One value at many places of a list.
use Rattle.std.specs.Prelude.{ℕ, List, [], ◌∷◌, slice_set}

-- the list with a value at each of the places
abbrev pub put_all : {X : Type 0} → List X → List ℕ → X → List X
put_all xs [] value = xs
put_all xs (place ∷ places) value = put_all (slice_set xs place value) places value
