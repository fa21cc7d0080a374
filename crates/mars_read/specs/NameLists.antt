-- A list of names in two parts: those that were there, and those that came after them.
use Rattle.std.specs.Prelude.{ℕ, List, ◌++◌}

-- names that were there, and after them those that were added
pub record NameLists : Type 0 where
  pub known : List (List ℕ)
  pub added : List (List ℕ)

-- all of them
abbrev pub joined_names : NameLists → List (List ℕ)
joined_names n = n.known ++ n.added
