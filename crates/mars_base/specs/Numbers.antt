-- Lists of numbers as contracts see them.
use Rattle.std.specs.Prelude.{ℕ, List}

-- the numbers, and the most that a number may be where it is written into the list
pub record NumberList : Type 0 where
  pub items : List ℕ
  pub most : ℕ
