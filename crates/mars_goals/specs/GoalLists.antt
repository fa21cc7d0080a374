-- Goal lists under numbers, and the first goal of one.
use Rattle.std.specs.Prelude.{◌≡◌, ℕ, ◌<◌, List, [], ◌∷◌, length, slice_index_or, Option, Some, None}
use Rattle.mars_goals.specs.declared.cells.Pending.{Pending}

-- the goal list of a number
abbrev pub list_at : List (List Pending) → ℕ → List Pending
list_at lists list = slice_index_or lists list []

-- nothing of an empty list, and else its first goal and the number of the list after it
abbrev pub TellsFirst : List (List Pending) → ℕ → Option (Pending × ℕ) → Type 0
TellsFirst lists list None = list_at lists list ≡ []
TellsFirst lists list (Some told) = (list_at lists list ≡ told.0 ∷ list_at lists told.1) × (told.1 < length lists)
