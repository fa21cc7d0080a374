-- What the fields of `MoreNames` hold.
use Rattle.std.specs.Prelude.{◌≡◌, ◌<◌, ◌^◌, ℕ, List, length, map, Option, Some, None}
use Rattle.std.specs.Borrow.{Bor}
use Rattle.mars_tree.specs.Names.{built_in_names, AreDistinct}
use Rattle.mars_read.specs.declared.more_names.MoreNames.TheInside.{Inside}
use Rattle.mars_read.specs.NameLists.{NameLists, joined_names}

-- the names that were there: the built-in ones, where no others are given
abbrev pub known_names : Option (Bor (List (List ℕ))) → List (List ℕ)
known_names None = built_in_names
known_names (Some names) = names.now

-- those, and the spellings that were added
abbrev pub name_lists : Inside → NameLists
name_lists m = record { known = known_names m.known; added = map (λ text. text.items) m.added.keys }

-- no two names are the same; those that were there are so many, and fit a name's number
pub record AreMoreNames (m : Inside) : Type 0 where
  pub first : m.first ≡ length (known_names m.known)
  pub few : length (known_names m.known) < 2 ^ 32
  pub distinct : AreDistinct (joined_names (name_lists m))
