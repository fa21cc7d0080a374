-- What a reading to the end takes from a source.
use Rattle.std.specs.Prelude.{◌≡◌, ◌⊎◌, ℕ, ◌+◌, ◌≤◌, List, length, Option}
use Rattle.std.specs.Io.KnownBytes.{Consumes, IsAtEnd}

-- no more than so many bytes were taken
pub record TakesAtMost (most : ℕ) (old new : Option (List ℕ)) : Type 0 where
  pub bytes : List ℕ
  pub consumed : Consumes old new bytes
  pub bound : length bytes ≤ most

-- these bytes were taken: all that there were, or one more than the limit
pub record HasRead (limit : ℕ) (old new : Option (List ℕ)) (bytes : List ℕ) : Type 0 where
  pub consumed : Consumes old new bytes
  pub ends : ((length bytes ≤ limit) × IsAtEnd new) ⊎ (length bytes ≡ limit + 1)
